-- The latest read among records, from the last record on.
use Rattle.std.proofs.Common.{◌≡◌, ℕ, ◌+◌, ◌<◌, Bool, Bor, true, false, cond, zero, suc, List, [], ◌∷◌, Option, map, refl, sym, ap, ◌∙◌, length, get_or, drop, arith}
use Rattle.std.specs.Prelude.{IfSome}
use Rattle.std.specs.Option.{option_copied}
use Rattle.std.proofs.lemmas.List.{drop_more}
use Rattle.std.specs.declared.option.Option.TheVariants.{None, Some}
use Rattle.std.specs.List.{Contains}
use Rattle.run_words.specs.declared.record.Record.{Record as Told}
use Rattle.protocol.specs.World.{Record}
use Rattle.protocol.specs.Seen.{record_of}
use Rattle.block_device.specs.Latest.{latest_read, read_by, or_else, value_given, AreWhole}

module _ (client block : ℕ) where
  -- the latest read among these
  abbrev pub latest : List Told → Option (List ℕ)
  latest rs = latest_read client block (map record_of rs)

  -- where no later record is such a read, this one decides
  pub latest_at : (rs : List Told) (i : ℕ) (d : Told) → i < length rs → latest (drop (i + 1) rs) ≡ None → latest (drop i rs) ≡ read_by client block (record_of (get_or rs i d))
  latest_at rs i d l e = ap latest (drop_more rs i d l) ∙ ap (λ (z : Option (List ℕ)). or_else z (read_by client block (record_of (get_or rs i d)))) e

  -- what the last records give is what all give
  pub latest_of : (rs : List Told) (i : ℕ) (value : List ℕ) → latest (drop i rs) ≡ Some value → latest rs ≡ Some value
  latest_of rs zero value e = e
  latest_of [] (suc i) value e = e
  latest_of (r ∷ rs) (suc i) value e = ap (λ (z : Option (List ℕ)). or_else z (read_by client block (record_of r))) (latest_of rs i value e)

chosen : (b : Bool) (o : Option (List ℕ)) (v : List ℕ) → cond b o None ≡ Some v → o ≡ Some v
chosen true o v e = e
chosen false o v e = absurd cc

module _ (client block : ℕ) where
  later : (r : Record) (rs : List Record) (v : List ℕ) (o : Option (List ℕ))
      → (latest_read client block rs ≡ Some v → (x : Record) × Contains rs x × (value_given x.outcome ≡ Some v))
      → latest_read client block rs ≡ o → or_else o (read_by client block r) ≡ Some v
      → (x : Record) × Contains (r ∷ rs) x × (value_given x.outcome ≡ Some v)
  later r rs v (Some x) rest f g =
      let more = rest (f ∙ g) in
      let l = more.1.1 in
      (more.0, (suc more.1.0, omega arith, more.1.2), more.2)
  later r rs v None rest f g = (r, (0, omega arith, refl), chosen _ (value_given r.outcome) v g)

  -- what a latest read gives, some record gives
  latest_gave : (rs : List Record) (v : List ℕ) → latest_read client block rs ≡ Some v → (r : Record) × Contains rs r × (value_given r.outcome ≡ Some v)
  latest_gave [] v e = absurd cc
  latest_gave (r ∷ rs) v e = later r rs v (latest_read client block rs) (latest_gave rs v) refl e

  -- what was found is as long as a block
  pub latest_size : (size : ℕ) (rs : List Record) → AreWhole size rs → (found : Option (Bor (List ℕ))) → option_copied found ≡ latest_read client block rs → IfSome found (λ old. length old.now ≡ size)
  latest_size size rs whole None e = tt
  latest_size size rs whole (Some x) e = let g = latest_gave rs x.now (sym e) in whole g.0 x.now g.1 g.2
