-- Items that have a word for each target.
use Rattle.std.specs.Prelude.{ℕ, ◌≡◌, ◌+◌, List, ◌++◌, codes, decimal, length}
use Rattle.statement.specs.Benches.{Text}
use Rattle.stil_write.specs.declared.items.ItemKind.{ItemKind}
use Rattle.stil_write.specs.declared.items.ItemKind.TheVariants as kind
use Rattle.statement.specs.Stils.{Item, quoted, joined, quoted_lines, item_text}
use Rattle.stil_write.specs.StilFiles.{item_kind, words_of}

-- ---- what is written at a time

-- `"a" In;`
abbrev pub signal_line : Text → Text → Text
signal_line kind name = codes "  " ++ (quoted name ++ kind)

abbrev pub signal_lines : Text → List Text → Text
signal_lines kind names = quoted_lines (codes "  ") kind names

-- `'"a" + "b"'`
abbrev pub expression : List Text → Text
expression names = codes "'" ++ (joined (codes " + ") names ++ codes "'")

abbrev pub waveform_line : Text → Text → Text
waveform_line kind name = codes "      " ++ (quoted name ++ kind)

abbrev pub waveform_lines : Text → List Text → Text
waveform_lines kind names = quoted_lines (codes "      ") kind names

-- what stands of a chain before the names of its cells
abbrev pub chain_head : ℕ → ℕ → Text
chain_head k cells =
    codes "  ScanChain " ++ (quoted (codes "chain" ++ decimal k) ++ (codes " {\n    ScanLength " ++ (decimal cells ++ (codes ";\n    ScanIn "
    ++ (quoted (codes "SC__si" ++ decimal k) ++ (codes ";\n    ScanOut " ++ (quoted (codes "SC__so" ++ decimal k) ++ codes ";\n    ScanCells ")))))))

-- and behind them
abbrev pub chain_end : Text
chain_end = codes ";\n    ScanMasterClock \"SC__ck\";\n  }\n"

-- `"q" = H; `
abbrev pub assignment : Text → Text → Text
assignment signal word = quoted signal ++ (codes " = " ++ (word ++ codes "; "))

abbrev pub opening : ItemKind → Text
opening kind.Call = codes "Call \"load_unload\" { "
opening kind.Vector = codes "V { "

abbrev pub targets : List Text → List Text → ItemKind → List Text
targets called assigned kind.Call = called
targets called assigned kind.Vector = assigned

abbrev pub item_line : List Text → List Text → Item → Text
item_line called assigned item = codes "  " ++ item_text called assigned item

-- an item has a word for each target
abbrev pub HasTargets : List Text → List Text → Item → Type 0
HasTargets called assigned item = length (words_of item) ≡ length (targets called assigned (item_kind item))
