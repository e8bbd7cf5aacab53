-- Pairs that agree still do when cells have entries more of which no client has a side.
use Rattle.std.proofs.Common.{◌≡◌, ◌⊎◌, ℕ, List, [], ◌∷◌, ◌++◌, sym, ◌∙◌, subst, inl, inr}
use Rattle.std.specs.declared.option.Option.TheVariants.{None, Some}
use Rattle.std.specs.List.{Contains, AllZip}
use Rattle.std.proofs.lemmas.List.Elements.{Contains-append_cases, Contains-append_left}
use Rattle.journals.specs.declared.node.NodeEntry.{NodeEntry}
use Rattle.journals.specs.declared.desk.DeskAct.{DeskAct}
use Rattle.journals.specs.declared.desk.DeskEntry.{DeskEntry}
use Rattle.journals.specs.Steps.{side, IsOwn}
use Rattle.locked_nodes.specs.Cells.{CellView}
use Rattle.client_desks.specs.Desks.{DeskView, desk_entry}
use Rattle.phase_threads.specs.Standing.{HasSideIn, HasSideOn, PairsStand}
use Rattle.lists.proofs.lemmas.Members.{Contains-head, Contains-none, Contains-rest, Contains-cons_cases}

-- who stands in one list has somebody at its place in the other
pub record Beside {X Y : Type 0} (R : X → Y → Type 0) (ys : List Y) (x : X) : Type 0 where
  other : Y
  there : Contains ys other
  so : R x other

pub beside : {X Y : Type 0} (R : X → Y → Type 0) (xs : List X) (ys : List Y) → AllZip R xs ys → (x : X) → Contains xs x → Beside R ys x
beside R [] ys z x there = absurd (Contains-none x there)
beside R (a ∷ xs) [] z x there = absurd z
beside R (a ∷ xs) (b ∷ ys) z x there = elim (Contains-cons_cases x a xs there) [
  | inl same ↦ subst (Beside R (b ∷ ys)) (sym same) (record { other = b; there = Contains-head b ys; so = z.0 })
  | inr rest ↦ (let q = beside R xs ys z.1 x rest in record { other = q.other; there = Contains-rest q.other b ys q.there; so = q.so })
]

pub turned : {X Y : Type 0} (R : X → Y → Type 0) (xs : List X) (ys : List Y) → AllZip R xs ys → AllZip (λ y x. R x y) ys xs
turned R [] [] z = tt
turned R [] (b ∷ ys) z = absurd z
turned R (a ∷ xs) [] z = absurd z
turned R (a ∷ xs) (b ∷ ys) z = (z.0, turned R xs ys z.1)

-- a cell with entries more, of which no client has a side
pub record HasMoreAlone (old new : CellView) : Type 0 where
  pub more : List NodeEntry
  pub grew : new.journal ≡ old.journal ++ more
  pub alone : (e : NodeEntry) → Contains more e → side e.act ≡ None

-- a desk of the same client with the same entries
pub record HasSameEntries (old new : DeskView) : Type 0 where
  pub id : new.id ≡ old.id
  pub entries : new.entries ≡ old.entries

pub pairs_on : (cells cells' : List CellView) (desks desks' : List DeskView) → AllZip HasMoreAlone cells cells' → AllZip HasSameEntries desks desks' → PairsStand cells desks → PairsStand cells' desks'
pairs_on cells cells' desks desks' zc zd h = record { called = called; answered = answered }
  where
    called : (cell : CellView) (n : NodeEntry) (c : ℕ) (act : DeskAct) → Contains cells' cell → Contains cell.journal n → side n.act ≡ Some (c, act) → HasSideOn desks' c n.number act
    called cell n c act among there is =
        let q = beside (λ y x. HasMoreAlone x y) cells' cells (turned HasMoreAlone cells cells' zc) cell among in
        elim (Contains-append_cases q.other.journal q.so.more n (subst (λ (es : List NodeEntry). Contains es n) q.so.grew there)) [
          | inl was ↦ (
              let on = h.called q.other n c act q.there was is in
              let d = beside HasSameEntries desks desks' zd on.desk on.there in
              record { desk = d.other; there = d.there; client = d.so.id ∙ on.client; stands = subst (λ (es : List DeskEntry). Contains es (desk_entry n.number act)) (sym d.so.entries) on.stands }
              )
          | inr new ↦ absurd (let none = q.so.alone n new in cc (none, is))
        ]

    moved : (c : ℕ) (e : DeskEntry) → HasSideIn cells c e → HasSideIn cells' c e
    moved c e s =
        let q = beside HasMoreAlone cells cells' zc s.cell s.there in
        record {
          cell = q.other;
          there = q.there;
          of = s.of;
          stands = subst (λ (es : List NodeEntry). Contains es s.of) (sym q.so.grew) (Contains-append_left s.cell.journal q.so.more s.of s.stands);
          number = s.number;
          agree = s.agree;
        }

    answered : (d : DeskView) (e : DeskEntry) → Contains desks' d → Contains d.entries e → IsOwn e.act ⊎ HasSideIn cells' d.id e
    answered d e among there =
        let q = beside (λ y x. HasSameEntries x y) desks' desks (turned HasSameEntries desks desks' zd) d among in
        elim (h.answered q.other e q.there (subst (λ (es : List DeskEntry). Contains es e) q.so.entries there)) [
          | inl own ↦ inl own
          | inr s ↦ inr (moved d.id e (subst (λ (k : ℕ). HasSideIn cells k e) (sym q.so.id) s))
        ]
