use Rattle.vectors.proofs.telegrams.indexed.assert_links.Given as goal

abbrev pub ghosts-found : goal.ghosts-found
ghosts-found g a = record { name = a.blank.name; parts = a.blank.parts }
