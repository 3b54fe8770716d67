use Rattle.line_model.proofs.runs.writes_are_torn_and_worn.Goals as goal
use Rattle.line_model.proofs.Disturbed.{torn_legal, torn_follows, power_first, worn_legal, worn_follows, worn_memory_keeps}

pub returns-clause-torn : goal.returns-clause-torn
returns-clause-torn c = torn_legal

pub returns-clause-cut : goal.returns-clause-cut
returns-clause-cut c = torn_follows

pub returns-clause-at_once : goal.returns-clause-at_once
returns-clause-at_once c = power_first

pub returns-clause-worn : goal.returns-clause-worn
returns-clause-worn c = worn_legal

pub returns-clause-changed : goal.returns-clause-changed
returns-clause-changed c = worn_follows

pub returns-clause-complements : goal.returns-clause-complements
returns-clause-complements c = worn_memory_keeps
