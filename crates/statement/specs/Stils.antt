-- STIL files of the project's profile: the value, and its one text.
use Rattle.std.specs.Prelude.{List, ℕ, zero, suc, [], ◌∷◌, ◌++◌, decimal, codes, length, ◌+◌, replicate}
use Rattle.std.specs.List.{flat_map, zip}
use Rattle.statement.specs.Benches.{Text}

pub data Item : Type 0 where
  -- a word for each scan input, and one for each scan output: the chains shift once a character
  Call : List Text → Item
  -- one cycle: a word for the inputs, for each scan input, for the clock where there is one, for the outputs, and for each scan output
  Vector : List Text → Item

pub record StilFile : Type 0 where
  -- inputs but scan inputs and the clock; outputs but scan outputs
  pub pi : List Text
  pub po : List Text
  -- the names of each chain's cells, from scan in to scan out
  pub chains : List (List Text)
  -- what the inputs have while the chains shift
  pub shift_word : Text
  pub items : List Item

-- `SC__si0` and so on, so many
abbrev pub numbered : Text → ℕ → List Text
numbered stem zero = []
numbered stem (suc n) = numbered stem n ++ (stem ++ decimal n) ∷ []

abbrev pub scan_inputs : StilFile → List Text
scan_inputs f = numbered (codes "SC__si") (length f.chains)

abbrev pub scan_outputs : StilFile → List Text
scan_outputs f = numbered (codes "SC__so") (length f.chains)

-- one thing where there is a chain
abbrev pub where_chained : {X : Type 0} → ℕ → X → List X
where_chained zero x = []
where_chained (suc n) x = x ∷ []

abbrev pub clock : StilFile → List Text
clock f = where_chained (length f.chains) (codes "SC__ck")

abbrev pub quoted : Text → Text
quoted name = codes "\"" ++ (name ++ codes "\"")

-- quoted names with something between them
abbrev pub joined : Text → List Text → Text
joined between [] = []
joined between (name ∷ names) = quoted name ++ flat_map (λ other. between ++ quoted other) names

-- for each name a line of it, quoted, with something before and behind
abbrev pub quoted_lines : Text → Text → List Text → Text
quoted_lines before behind names = flat_map (λ name. before ++ (quoted name ++ behind)) names

-- `"SC__pi" = '"a" + "b"';`
abbrev pub group_line : Text → List Text → Text
group_line group names = codes "  " ++ (quoted group ++ (codes " = '" ++ ((joined (codes " + ") names ++ codes "'") ++ codes ";\n")))

-- a chain by its number: what stands before the names of its cells, these, and what stands behind them
abbrev pub chain_block : ℕ → List Text → Text
chain_block k cells =
    (codes "  ScanChain " ++ (quoted (codes "chain" ++ decimal k) ++ (codes " {\n    ScanLength " ++ (decimal (length cells) ++ (codes ";\n    ScanIn "
    ++ (quoted (codes "SC__si" ++ decimal k) ++ (codes ";\n    ScanOut " ++ (quoted (codes "SC__so" ++ decimal k) ++ codes ";\n    ScanCells "))))))))
    ++ (joined (codes " ") cells ++ codes ";\n    ScanMasterClock \"SC__ck\";\n  }\n")

-- from the chain of a number on
abbrev pub chain_blocks : ℕ → List (List Text) → Text
chain_blocks k [] = []
chain_blocks k (cells ∷ chains) = chain_block k cells ++ chain_blocks (k + 1) chains

-- `"q" = H; ` of each signal and its word
abbrev pub assignments : List Text → List Text → Text
assignments signals words = flat_map (λ p. quoted p.0 ++ (codes " = " ++ (p.1 ++ codes "; "))) (zip signals words)

-- an item by what a call and what a vector assigns to
abbrev pub item_text : List Text → List Text → Item → Text
item_text called assigned (Call words) = codes "Call \"load_unload\" { " ++ (assignments called words ++ codes "}\n")
item_text called assigned (Vector words) = codes "V { " ++ (assignments assigned words ++ codes "}\n")

abbrev pub signals_text : StilFile → Text
signals_text f =
    quoted_lines (codes "  ") (codes " In;\n") f.pi ++ (quoted_lines (codes "  ") (codes " In { ScanIn; }\n") (scan_inputs f)
    ++ (quoted_lines (codes "  ") (codes " In;\n") (clock f) ++ (quoted_lines (codes "  ") (codes " Out;\n") f.po
    ++ (quoted_lines (codes "  ") (codes " Out { ScanOut; }\n") (scan_outputs f) ++ codes "}\n"))))

abbrev pub timing_text : StilFile → Text
timing_text f =
    codes "Timing {\n  WaveformTable \"wft\" {\n    Period '100ns';\n    Waveforms {\n"
    ++ (quoted_lines (codes "      ") (codes " { 01 { '0ns' D/U; } }\n") (codes "SC__pi" ∷ scan_inputs f)
    ++ (quoted_lines (codes "      ") (codes " { 0 { '0ns' D; } P { '0ns' D; '45ns' U; '55ns' D; } }\n") (clock f)
    ++ (quoted_lines (codes "      ") (codes " { HLX { '40ns' H/L/X; } }\n") (codes "SC__po" ∷ scan_outputs f) ++ codes "    }\n  }\n}\n")))

abbrev pub structures_text : List (List Text) → Text
structures_text [] = []
structures_text (chain ∷ chains) = codes "ScanStructures {\n" ++ (chain_blocks 0 (chain ∷ chains) ++ codes "}\n")

-- what a vector assigns to, and what a call does
abbrev pub assigned : ℕ → List Text
assigned chains =
    codes "SC__pi" ∷ (numbered (codes "SC__si") chains ++ (where_chained chains (codes "SC__ck") ++ (codes "SC__po" ∷ numbered (codes "SC__so") chains)))

abbrev pub called : ℕ → List Text
called chains = numbered (codes "SC__si") chains ++ numbered (codes "SC__so") chains

-- while the chains shift: # is what a call gives, and nothing else is strobed
abbrev pub shift_words : StilFile → List Text
shift_words f =
    f.shift_word ∷ (replicate (length f.chains) (codes "#") ++ (where_chained (length f.chains) (codes "P")
    ++ (replicate (length f.po) 88 ∷ replicate (length f.chains) (codes "#"))))

-- where there are chains
abbrev pub procedures_by : ℕ → StilFile → Text
procedures_by zero f = []
procedures_by (suc n) f =
    codes "Procedures {\n  \"load_unload\" {\n    W \"wft\";\n    Shift {\n      "
    ++ (item_text (called (length f.chains)) (assigned (length f.chains)) (Vector (shift_words f)) ++ codes "    }\n  }\n}\n")

abbrev pub stil_text : StilFile → Text
stil_text f =
    codes "STIL 1.0;\nHeader {\n  Title \"full scan test\";\n}\nSignals {\n" ++ (signals_text f
    ++ ((codes "SignalGroups {\n" ++ (group_line (codes "SC__pi") f.pi ++ (group_line (codes "SC__po") f.po ++ codes "}\n"))) ++ (timing_text f
    ++ (structures_text f.chains ++ (codes "PatternBurst \"burst\" {\n  PatList { \"pattern\"; }\n}\nPatternExec {\n  PatternBurst \"burst\";\n}\n"
    ++ (procedures_by (length f.chains) f ++ (codes "Pattern \"pattern\" {\n  W \"wft\";\n"
    ++ (flat_map (λ item. codes "  " ++ item_text (called (length f.chains)) (assigned (length f.chains)) item) f.items ++ codes "}\n"))))))))
