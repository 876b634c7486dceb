-- The one way in which a STIL file is written.
use Rattle.std.specs.Prelude.{◌++◌, codes, length}
use Rattle.std.specs.List.{flat_map}
use Rattle.statement.specs.Benches.{Text}
use Rattle.statement.specs.Stils.{StilFile, group_line, assigned, called}
use Rattle.stil_write.specs.Pieces.{item_line}

-- ---- what is written at a time

abbrev pub head_text : Text
head_text = codes "STIL 1.0;\nHeader {\n  Title \"full scan test\";\n}\nSignals {\n"

abbrev pub groups_text : StilFile → Text
groups_text f = codes "SignalGroups {\n" ++ (group_line (codes "SC__pi") f.pi ++ (group_line (codes "SC__po") f.po ++ codes "}\n"))

abbrev pub drive_form : Text
drive_form = codes " { 01 { '0ns' D/U; } }\n"

abbrev pub clock_form : Text
clock_form = codes " { 0 { '0ns' D; } P { '0ns' D; '45ns' U; '55ns' D; } }\n"

abbrev pub strobe_form : Text
strobe_form = codes " { HLX { '40ns' H/L/X; } }\n"

abbrev pub timing_head : Text
timing_head = codes "Timing {\n  WaveformTable \"wft\" {\n    Period '100ns';\n    Waveforms {\n"

abbrev pub burst_text : Text
burst_text = codes "PatternBurst \"burst\" {\n  PatList { \"pattern\"; }\n}\nPatternExec {\n  PatternBurst \"burst\";\n}\n"

abbrev pub procedures_head : Text
procedures_head = codes "Procedures {\n  \"load_unload\" {\n    W \"wft\";\n    Shift {\n      "

abbrev pub pattern_text : StilFile → Text
pattern_text f = codes "Pattern \"pattern\" {\n  W \"wft\";\n" ++ (flat_map (item_line (called (length f.chains)) (assigned (length f.chains))) f.items ++ codes "}\n")
