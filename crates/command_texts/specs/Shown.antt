-- What `sum` writes of a block.
use Rattle.std.specs.Prelude.{ℕ, ◌+◌, List, [], ◌∷◌, ◌++◌, codes, decimal}
use Rattle.hex.specs.Hex.{encode_lower}
use Rattle.cross_sum.specs.Digest.{digest}
use Rattle.gf_field.specs.Fragments.{fragments_of}
use Rattle.ida_code.specs.Sums.{verifier_of}
use Rattle.text_lines.specs.Fields.{value_text}
use Rattle.text_lines.specs.Lines.{line_of_fields, text_of_lines}

-- a fragment's number, the fragment, and a digest
abbrev pub fragment_line : ℕ → List ℕ → List ℕ → List ℕ
fragment_line number fragment hash = line_of_fields (decimal number ∷ value_text fragment ∷ encode_lower hash ∷ [])

-- the lines of fragments, numbered from this number on, each with its own digest
abbrev pub fragment_lines : ℕ → List (List ℕ) → List (List ℕ)
fragment_lines number [] = []
fragment_lines number (fragment ∷ more) = fragment_line number fragment (digest fragment) ∷ fragment_lines (number + 1) more

abbrev pub verifier_line : List ℕ → List ℕ
verifier_line verifier = line_of_fields (codes "verifier" ∷ encode_lower verifier ∷ [])

-- the n fragments of the block D, any m of which give it, and the block's verifier
abbrev pub shown_lines : ℕ → ℕ → List ℕ → List (List ℕ)
shown_lines n m D = fragment_lines 0 (fragments_of n m D) ++ verifier_line (verifier_of n m D) ∷ []

abbrev pub shown_text : ℕ → ℕ → List ℕ → List ℕ
shown_text n m D = text_of_lines (shown_lines n m D)
