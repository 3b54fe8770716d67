use Rattle.std.proofs.Common.{refl, ap}
use Rattle.hub_work.specs.Telegrams.{Telling}
use Rattle.hub_work.proofs.NextTelegram.{telling_follows}
use Rattle.hub_work.proofs.Works.{next_is}
use Rattle.hub_work.proofs.KeptBooks.{room_to_tell, one_more_told, tell_books}
use Rattle.hub_work.proofs.work.Work.tell_telegram.Goals as goal

pub add-requires : goal.add-requires
add-requires c = room_to_tell c.args.self.now c.args.at c.args.k c.requires.books c.requires.next

pub returns-clause-books : goal.returns-clause-books
returns-clause-books c =
    tell_books c.args.self.now (record c.args.self.now { journal = c.add.new.self; telegrams = c.told.new.self }) c.args.at c.args.k c.args.what c.requires.books c.requires.what c.requires.next c.told.ensures.few refl refl refl
    (ap (λ (t : Telling). t.told) c.told.ensures.next) (ap (λ (t : Telling). t.turns) c.told.ensures.next) c.add.ensures.added c.add.ensures.room

pub returns-clause-follows : goal.returns-clause-follows
returns-clause-follows c =
    telling_follows c.args.self.now c.add.new.self c.told.new.self c.args.at c.args.k c.args.what c.requires.what
    (next_is c.args.self.now.telegrams.told c.args.self.now.telegrams.turns c.args.self.now.journal.entries c.args.k c.requires.books.telling c.requires.next)
    (one_more_told c.args.self.now c.args.at c.args.k c.told.new.self.told c.requires.books c.requires.next c.told.ensures.few (ap (λ (t : Telling). t.told) c.told.ensures.next))
    (ap (λ (t : Telling). t.turns) c.told.ensures.next) (ap (λ (t : Telling). t.stage) c.told.ensures.next) c.add.ensures.added
