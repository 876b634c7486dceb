-- Files in memory as a finite map from names to bytes.
use Rattle.std.specs.Prelude.{ℕ, List, map, Vec, String}
use Rattle.std.specs.Coded.{Coded, coded_ℕ, coded_list}
use Rattle.std.specs.Ordering.{nat_cmp}
use Rattle.std.specs.Cmp.Lexicographic.{slice_cmp}
use Rattle.std.specs.FinMap as finite
use Rattle.std.specs.String.{string_bytes}
use Rattle.std.specs.declared.alloc.Global.{Global}

abbrev pub FileMap : Type 0
FileMap = finite.FinMap (slice_cmp nat_cmp) (List ℕ)

abbrev pub file_map_code : Coded FileMap
file_map_code = finite.code (coded_list coded_ℕ) (coded_list coded_ℕ)

-- the map of entries of the program
abbrev pub file_map : List (String Global × Vec ℕ Global) → FileMap
file_map entries = finite.from_entries (map (λ e. (string_bytes e.0, e.1.items)) entries)
