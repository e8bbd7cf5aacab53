-- One entry more.
use Rattle.std.proofs.Common.{◌≡◌, ◌⊎◌, List, [], ◌∷◌, ◌++◌, refl, sym, ap, subst, inl, inr, append_assoc}
use Rattle.std.proofs.lemmas.List.{append-nil}
use Rattle.journals.specs.declared.desk.DeskAct.{DeskAct}
use Rattle.journals.specs.declared.desk.DeskEntry.{DeskEntry}
use Rattle.plan_followed.specs.Clients.{InEach, GoesByPlan}
use Rattle.plan_followed.specs.Laws.{OneMore}

-- an entry of the longer list is the last one, or one of the others
abbrev Splits : List DeskEntry → DeskEntry → List DeskEntry → DeskEntry → Type 0
Splits es e before x = ((before ≡ es) × (x ≡ e)) ⊎ ((rest : List DeskEntry) × (es ≡ before ++ x ∷ rest))

longer : (y b x e : DeskEntry) (ys bs : List DeskEntry) → y ≡ b → Splits ys e bs x → Splits (y ∷ ys) e (b ∷ bs) x
longer y b x e ys bs same (inl s) = (let w : ◌≡◌ {A = List DeskEntry} (b ∷ bs) (y ∷ ys) = cc in inl (w, s.1))
longer y b x e ys bs same (inr s) = (let t = s.1 in let w : ◌≡◌ {A = List DeskEntry} (y ∷ ys) (b ∷ (bs ++ x ∷ s.0)) = cc in inr (s.0, w))

no_more : (bs : List DeskEntry) (x : DeskEntry) (rest : List DeskEntry) → [] ≡ bs ++ x ∷ rest → ⊥
no_more [] x rest p = absurd (cc)
no_more (b ∷ bs) x rest p = absurd (cc)

split : (es before rest : List DeskEntry) (e x : DeskEntry) → es ++ e ∷ [] ≡ before ++ x ∷ rest → Splits es e before x
split [] [] rest e x p = (let same : x ≡ e = cc in inl (refl, same))
split [] (b ∷ bs) rest e x p = (let q : [] ≡ bs ++ x ∷ rest = cc in absurd (no_more bs x rest q))
split (y ∷ ys) [] rest e x p = (let w : ◌≡◌ {A = List DeskEntry} (y ∷ ys) (x ∷ ys) = (let same : y ≡ x = cc in ap (λ (z : DeskEntry). z ∷ ys) same) in inr (ys, w))
split (y ∷ ys) (b ∷ bs) rest e x p = (let same : y ≡ b = cc in let q : ys ++ e ∷ [] ≡ bs ++ x ∷ rest = cc in longer y b x e ys bs same (split ys bs rest e x q))

in_longer : (fact : List DeskEntry → DeskAct → Type 0) (es : List DeskEntry) (e : DeskEntry) → InEach fact es → fact es e.act → InEach fact (es ++ e ∷ [])
in_longer fact es e h last before rest x p = at (split es before rest e x p)
  where
    at : Splits es e before x → fact before x.act
    at (inl s) = (let w : fact es x.act = subst (λ (z : DeskEntry). fact es z.act) (sym s.1) last in subst (λ (bs : List DeskEntry). fact bs x.act) (sym s.0) w)
    at (inr s) = h before s.0 x s.1

pub one_more : OneMore
one_more plan c es e h last = in_longer (GoesByPlan plan c) es e h last

-- the fact holds of each entry after these
abbrev pub EachFrom : (List DeskEntry → DeskAct → Type 0) → List DeskEntry → List DeskEntry → Type 0
EachFrom fact before [] = Unit {0}
EachFrom fact before (e ∷ es) = fact before e.act × EachFrom fact (before ++ e ∷ []) es

each_after : (fact : List DeskEntry → DeskAct → Type 0) (done es before rest : List DeskEntry) (e : DeskEntry) → EachFrom fact done es → es ≡ before ++ e ∷ rest → fact (done ++ before) e.act
each_after fact done [] before rest e h p = absurd (no_more before e rest p)
each_after fact done (x ∷ xs) [] rest e h p = (let same : e ≡ x = cc in subst (λ (bs : List DeskEntry). fact bs e.act) (sym (append-nil done)) (subst (λ (z : DeskEntry). fact done z.act) (sym same) h.0))
each_after fact done (x ∷ xs) (b ∷ bs) rest e h p =
    let same : x ≡ b = cc in
    let q : xs ≡ bs ++ e ∷ rest = cc in
    let w = each_after fact (done ++ x ∷ []) xs bs rest e h.1 q in
    subst (λ (z : DeskEntry). fact (done ++ z ∷ bs) e.act) same (subst (λ (ds : List DeskEntry). fact ds e.act) (append_assoc done (x ∷ []) bs) w)

-- so it holds of each
pub each_in : (fact : List DeskEntry → DeskAct → Type 0) (es : List DeskEntry) → EachFrom fact [] es → InEach fact es
each_in fact es h before rest e p = each_after fact [] es before rest e h p
