-- Records of which one takes the place of that of its operation.
use Rattle.std.proofs.Common.{◌≡◌, ◌⊎◌, ◌↔◌, Bool, true, false, cond, ◌&&◌, List, refl, sym, ◌∙◌, ap, inl, inr, eqb}
use Rattle.std.specs.List.{Contains}
use Rattle.protocol.specs.World.{Record, replaced_by, with_record}
use Rattle.protocol.specs.Facts.{IsSameOperation, HasOperation}
use Rattle.protocol.proofs.lemmas.Tests.{are_same, same_are, not_same, same_not}
use Rattle.lists.proofs.lemmas.Members.{Contains-map_cases, Contains-map}

-- exactly these stand there then: r, if one of its operation stood there, and those of other operations
pub with_iff : (rs : List Record) (r x : Record) → Contains (with_record rs r) x ↔ ((x ≡ r × HasOperation rs r) ⊎ (Contains rs x × (IsSameOperation x r → ⊥)))
with_iff rs r x = (there, back)
  where
    at : (old : Record) → Contains rs old → (b : Bool) → eqb old.client r.client && eqb old.start r.start ≡ b → x ≡ cond b r old → (x ≡ r × HasOperation rs r) ⊎ (Contains rs x × (IsSameOperation x r → ⊥))
    at old h true t e = inl (e, (old, h, are_same old.client r.client old.start r.start t))
    at old h false t e = inr (rw e h, λ k. not_same old.client r.client old.start r.start t (sym (ap (λ (y : Record). y.client) e) ∙ k.0) (sym (ap (λ (y : Record). y.start) e) ∙ k.1))

    there : Contains (with_record rs r) x → (x ≡ r × HasOperation rs r) ⊎ (Contains rs x × (IsSameOperation x r → ⊥))
    there h = let q = Contains-map_cases (replaced_by r) rs x h in at q.0 q.1 (eqb q.0.client r.client && eqb q.0.start r.start) refl q.2

    back : (x ≡ r × HasOperation rs r) ⊎ (Contains rs x × (IsSameOperation x r → ⊥)) → Contains (with_record rs r) x
    back (inl h) =
        let old = h.1.0 in
        let k = Contains-map (replaced_by r) rs old h.1.1 in
        let l : Contains (with_record rs r) (cond true r old) = rw (same_are old.client r.client old.start r.start h.1.2.0 h.1.2.1) at k in
        rw h.0 l
    back (inr h) =
        let k = Contains-map (replaced_by r) rs x h.0 in
        let l : Contains (with_record rs r) (cond false r x) = rw (same_not x.client r.client x.start r.start h.1) at k in l

-- a record is the new one, or one of before of another operation
pub with_cases : (rs : List Record) (r x : Record) → Contains (with_record rs r) x → (x ≡ r) ⊎ (Contains rs x × (x.client ≡ r.client → x.start ≡ r.start → ⊥))
with_cases rs r x h = elim ((with_iff rs r x).0 h) [ inl k ↦ inl k.0 | inr k ↦ inr (k.0, λ p q. k.1 (p, q)) ]
