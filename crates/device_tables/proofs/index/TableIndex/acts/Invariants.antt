use Rattle.device_tables.proofs.index.TableIndex.acts.Given as goal

abbrev pub ghosts-linked_uncounted : goal.ghosts-linked_uncounted
ghosts-linked_uncounted a = record { name = a.blank.name; parts = a.blank.parts }
