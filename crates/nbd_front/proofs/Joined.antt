-- The bytes of a request that were read in two parts.
use Rattle.std.proofs.Common.{◌≡◌, ℕ, List, ◌++◌, length, take, drop, sym, ◌∙◌, ap, subst}
use Rattle.std.proofs.Math.Seq.{take-length, take-append_seam, drop-append_seam}
use Rattle.std.specs.Int.{w32, from_be_bytes}
use Rattle.nbd_front.specs.Requests.{magic_of, request_of, fields_of}

module _ (magic rest : List ℕ) (four : length magic ≡ 4) where
  front : take 4 (magic ++ rest) ≡ magic
  front = subst (λ n. take n (magic ++ rest) ≡ magic) four (take-append_seam magic rest)

  back : drop 4 (magic ++ rest) ≡ rest
  back = subst (λ n. drop n (magic ++ rest) ≡ rest) four (drop-append_seam magic rest)

  pub magic_joined : (n : ℕ) → n ≡ from_be_bytes w32 magic → magic_of (magic ++ rest) ≡ n
  magic_joined n e = ap (λ xs. from_be_bytes w32 xs) front ∙ sym e

  pub request_joined : length rest ≡ 24 → request_of (magic ++ rest) ≡ fields_of rest
  request_joined l =
      let whole : take 24 rest ≡ rest = subst (λ n. take n rest ≡ rest) l (take-length rest) in
      ap (λ xs. fields_of (take 24 xs)) back ∙ ap fields_of whole
