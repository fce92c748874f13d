-- What a draft of a script says.
use Rattle.hib_script.specs.declared.drafts.Draft.{Draft}
use Rattle.hib_script.specs.Lines.{Reader}
use Rattle.hib_script.specs.Outline.{outline_of}

-- a draft with its script's outline in the place of the script, and its rows and sessions in that
abbrev pub reader_of : Draft → Reader
reader_of d = record { outline = record (outline_of d.script) { rows = d.rows; sessions = d.sessions }; entity = d.entity; statements = d.statements; place = d.place }
