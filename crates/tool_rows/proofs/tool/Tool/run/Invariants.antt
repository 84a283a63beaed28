use Rattle.tool_rows.proofs.tool.Tool.run.Given as goal

abbrev pub ghosts-scan : goal.ghosts-scan
ghosts-scan g a = record { name = a.blank.name; parts = a.blank.parts }
