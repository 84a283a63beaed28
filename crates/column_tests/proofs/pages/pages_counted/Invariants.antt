use Rattle.column_tests.proofs.pages.pages_counted.Given as goal

abbrev pub ghosts-pages_lent : goal.ghosts-pages_lent
ghosts-pages_lent a = record { name = a.blank.name; parts = a.blank.parts }
