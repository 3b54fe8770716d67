use Rattle.line_model.proofs.runs.a_telegram_is_sent.Goals as goal
use Rattle.line_model.proofs.Disturbed.{telegram_legal, telegram_told}

pub returns-clause-legal : goal.returns-clause-legal
returns-clause-legal c = telegram_legal

pub returns-clause-told : goal.returns-clause-told
returns-clause-told c = telegram_told
