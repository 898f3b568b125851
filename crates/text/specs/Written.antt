-- The bytes of a text in plain letters, so that a definition can say a word as it is written.
use Rattle.std.specs.Prelude.{List, [], ◌∷◌, ℕ}
use Prim.Native.Char.{code}
use Prim.Native.String.{String, [] as no_text, ◌∷◌ as ◌then◌}

-- the bytes that write the text, one for each plain letter
abbrev pub written : String → List ℕ
written no_text = []
written (c then s) = code c ∷ written s
