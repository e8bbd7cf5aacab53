-- Options that are read in parts, and what bytes behind them change of them: nothing.
use Rattle.std.proofs.Common.{◌≡◌, ℕ, ◌<◌, ◌≤◌, List, ◌++◌, length, take, drop, sym, ◌∙◌, ap, arith, length-append, Option}
use Rattle.std.proofs.Math.Seq.{take_at, take_all}
use Rattle.std.proofs.lemmas.List.{take-append-le, drop-append-le, drop_at, drop-drop, length-drop}
use Rattle.std.specs.Int.{w32, from_be_bytes}
use Rattle.std.specs.Io.KnownBytes.{Consumes}
use Rattle.outside_io.proofs.lemmas.Known.{Consumes-then}
use Rattle.exact_input.specs.Counts.{GaveFewer}
use Rattle.nbd_handshake.specs.declared.arrival.Head.{Head}
use Rattle.nbd_handshake.specs.Numbers.{option_magic}
use Rattle.nbd_handshake.specs.Options.{head_len, data_len, option_of, IsOption, IsPart}
use Rattle.nbd_handshake.specs.Steps.{asked, IsHead, HasBegun}

-- ---- bytes behind a head
module _ (head more : List ℕ) (long : head_len ≤ length head) where
  pub same_magic : take 8 (head ++ more) ≡ take 8 head
  same_magic = take-append-le 8 head more (omega (arith, long))

  pub same_len : data_len (head ++ more) ≡ data_len head
  same_len =
      ap (λ xs. from_be_bytes w32 (take 4 xs)) (drop-append-le 12 head more (omega (arith, long)))
      ∙ ap (λ xs. from_be_bytes w32 xs) (take-append-le 4 (drop 12 head) more (omega (arith, long, length-drop 12 head)))

  pub same_number : (option_of (head ++ more)).number ≡ (option_of head).number
  same_number =
      ap (λ xs. from_be_bytes w32 (take 4 xs)) (drop-append-le 8 head more (omega (arith, long)))
      ∙ ap (λ xs. from_be_bytes w32 xs) (take-append-le 4 (drop 8 head) more (omega (arith, long, length-drop 8 head)))

-- a whole option is the same before other bytes
pub same_option : (bytes more : List ℕ) → IsOption bytes → option_of (bytes ++ more) ≡ option_of bytes
same_option bytes more is =
    let long : head_len ≤ length bytes = omega (arith, is.size) in
    let rest : take (data_len bytes) (drop head_len (bytes ++ more)) ≡ take (data_len bytes) (drop head_len bytes) =
    ap (take (data_len bytes)) (drop-append-le head_len bytes more long) ∙ take-append-le (data_len bytes) (drop head_len bytes) more (omega (arith, is.size, length-drop head_len bytes)) in
    let all : take (data_len (bytes ++ more)) (drop head_len (bytes ++ more)) ≡ take (data_len bytes) (drop head_len bytes) =
    ap (λ n. take n (drop head_len (bytes ++ more))) (same_len bytes more long) ∙ rest in
    λ i. record { number = same_number bytes more long i; bytes = all i }

-- ---- a head and its data
module _ (h : Head) (head more : List ℕ) (is : IsHead h head) where
  long : head_len ≤ length head
  long = omega (arith, is.size)

  magic : take 8 (head ++ more) ≡ option_magic
  magic = same_magic head more long ∙ is.magic

  size : h.len ≡ data_len (head ++ more)
  size = is.len ∙ sym (same_len head more long)

  pub is_option : length more ≡ h.len → IsOption (head ++ more)
  is_option all = record { magic = magic; size = omega (arith, all, size, length-append head more, is.size) }

  pub is_part : length more < h.len → IsPart (head ++ more)
  is_part short = record { magic = λ l. magic; short = λ l. omega (arith, short, size, length-append head more, is.size) }

  pub is_asked : length more ≡ h.len → option_of (head ++ more) ≡ asked h more
  is_asked all =
      let number : (option_of (head ++ more)).number ≡ h.number = same_number head more long ∙ sym is.number in
      let bytes : take (data_len (head ++ more)) (drop head_len (head ++ more)) ≡ more =
      ap (take (data_len (head ++ more))) (drop_at head more head_len is.size) ∙ take_all (data_len (head ++ more)) more (omega (arith, all, size)) in
      λ i. record { number = number i; bytes = bytes i }

-- a source that gave a head, and then fewer bytes than its data have
pub begun_within : (h : Head) (head : List ℕ) (left mid left_after : Option (List ℕ)) → IsHead h head → Consumes left mid head → GaveFewer h.len mid left_after → HasBegun left left_after
begun_within h head left mid left_after is gave f = (head ++ f.0, Consumes-then _ _ _ head f.0 gave f.1, is_part h head f.0 is f.2)

-- ---- magic and fields that were read one after the other
module _ (magic fields : List ℕ) (eight : length magic ≡ 8) where
  pub joined_magic : take 8 (magic ++ fields) ≡ magic
  joined_magic = take_at magic fields 8 eight

  joined_rest : drop 8 (magic ++ fields) ≡ fields
  joined_rest = drop_at magic fields 8 eight

  pub joined_number : from_be_bytes w32 (take 4 (drop 8 (magic ++ fields))) ≡ from_be_bytes w32 (take 4 fields)
  joined_number = ap (λ xs. from_be_bytes w32 (take 4 xs)) joined_rest

  pub joined_len : data_len (magic ++ fields) ≡ from_be_bytes w32 (take 4 (drop 4 fields))
  joined_len = ap (λ xs. from_be_bytes w32 (take 4 xs)) (sym (drop-drop 4 8 (magic ++ fields)) ∙ ap (drop 4) joined_rest)

-- what begins an option, and has no whole head
pub is_short : (bytes : List ℕ) → length bytes < head_len → (8 ≤ length bytes → take 8 bytes ≡ option_magic) → IsPart bytes
is_short bytes short magic = record { magic = magic; short = λ l. absurd (omega (arith, l, short)) }
