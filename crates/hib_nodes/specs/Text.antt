-- The text of a journal of two nodes, as bytes.
use Rattle.std.specs.Prelude.{ℕ, List, ◌++◌, length, codes, flat_map}
use Rattle.std.specs.Fmt.{decimal}
use Rattle.hib_journal.specs.Types.{Entry, Script}
use Rattle.hib_report.specs.Lines.{act_text, actor_text, part_text, reply_text}
use Rattle.hib_nodes_law.specs.declared.nodes.NodeEntry.{NodeEntry}

-- when it was, at which node, who did it, and where
abbrev pub head_text : Script → ℕ → Entry → List ℕ
head_text script n e =
    decimal e.tick ++ codes " " ++ decimal n ++ codes " " ++ actor_text script e.session ++ codes " " ++ part_text e.part ++ codes " "

-- what was done and answered
abbrev pub body_text : Script → Entry → List ℕ
body_text script e = act_text script e.act ++ codes " = " ++ reply_text script e.reply

-- the line of an entry, with its end
unfoldable pub entry_text : Script → NodeEntry → List ℕ
entry_text script e = head_text script e.node e.entry ++ body_text script e.entry ++ codes "\n"

-- the number of entries, and a line for each
abbrev pub noded_text : Script → List NodeEntry → List ℕ
noded_text script es = codes "journal " ++ decimal (length es) ++ codes "\n" ++ flat_map (λ e. entry_text script e) es ++ codes "end\n"
