-- The text of a journal with bulk lines, as bytes.
use Rattle.std.specs.Prelude.{ℕ, List, ◌++◌, length, codes, flat_map}
use Rattle.std.specs.Option.{option_map_or}
use Rattle.std.specs.Fmt.{decimal}
use Rattle.hib_journal.specs.Types.{Act, Script}
use Rattle.hib_report.specs.Lines as Plainly
use Rattle.hib_report.specs.Lines.{part_text}
use Rattle.hib_texts.specs.Texts.{entity_text, key_text, session_text}
use Rattle.hib_bulk.specs.Types.{BulkDef, BulkAct, BulkReply, BulkEntry}
use Rattle.hib_bulk_law.specs.Rows.{line}

-- the name of a line or of a session
abbrev pub name_text : Script → List BulkDef → ℕ → List ℕ
name_text script lines s = option_map_or (λ d. d.name) (line script lines s) (session_text script s)

abbrev pub act_text : Script → List BulkDef → BulkAct → List ℕ
act_text script lines (BulkAct.Plain a) = Plainly.act_text script a
act_text script lines (BulkAct.LockAll n) = codes "lock-all " ++ entity_text script n
act_text script lines (BulkAct.Bulk b) = codes "bulk " ++ name_text script lines b
act_text script lines (BulkAct.UnlockAll n) = codes "unlock-all " ++ entity_text script n
act_text script lines (BulkAct.Sweep k) = codes "sweep " ++ key_text script k

-- a refusal by a region that lines hold, with their number; to a Get it is a miss
abbrev pub wide_text : BulkAct → ℕ → List ℕ
wide_text (BulkAct.Plain (Act.Get k t)) n = codes "miss wide " ++ decimal n
wide_text _ n = codes "wide " ++ decimal n

abbrev pub reply_text : Script → BulkAct → BulkReply → List ℕ
reply_text script a (BulkReply.Plain r) = Plainly.reply_text script r
reply_text script a (BulkReply.Held n) = codes "held " ++ decimal n
reply_text script a (BulkReply.Released n) = codes "released " ++ decimal n
reply_text script a (BulkReply.Changed n) = codes "changed " ++ decimal n
reply_text script a BulkReply.Swept = codes "evicted"
reply_text script a (BulkReply.Wide n) = wide_text a n
reply_text script a (BulkReply.WideEarly t) = codes "wide-early " ++ decimal t

-- who did it, and where
abbrev pub head_text : Script → List BulkDef → BulkEntry → List ℕ
head_text script lines e = decimal e.tick ++ codes " " ++ name_text script lines e.session ++ codes " " ++ part_text e.part ++ codes " "

-- what was done and answered
abbrev pub body_text : Script → List BulkDef → BulkAct → BulkReply → List ℕ
body_text script lines a r = act_text script lines a ++ codes " = " ++ reply_text script a r

-- the line of an entry, with its end
abbrev pub entry_text : Script → List BulkDef → BulkEntry → List ℕ
entry_text script lines e = head_text script lines e ++ body_text script lines e.act e.reply ++ codes "\n"

-- the number of entries, and a line for each
abbrev pub bulked_text : Script → List BulkDef → List BulkEntry → List ℕ
bulked_text script lines es = codes "journal " ++ decimal (length es) ++ codes "\n" ++ flat_map (λ e. entry_text script lines e) es ++ codes "end\n"
