-- A cell with entries more of which no client has a side.
use Rattle.std.proofs.Common.{◌≡◌, ℕ, Bool, true, false, List, [], ◌∷◌, ◌++◌, map, refl, sym, ◌∙◌, ap, subst, inl, inr, append_assoc}
use Rattle.std.specs.declared.option.Option.TheVariants.{None}
use Rattle.std.specs.Prelude.{if◌then◌else◌}
use Rattle.std.proofs.lemmas.List.{map-append}
use Rattle.std.proofs.lemmas.List.Elements.{Contains-append_cases}
use Rattle.protocol.specs.Messages.{Message}
use Rattle.protocol.proofs.lemmas.Lists.{append_nil}
use Rattle.journals.specs.declared.node.Nature.{Nature}
use Rattle.journals.specs.declared.node.Nature.TheVariants.{Honest, Lying as Lies}
use Rattle.journals.specs.declared.node.NodeAct.{NodeAct}
use Rattle.journals.specs.declared.node.NodeAct.TheVariants.{CrashedAt, LateLost}
use Rattle.journals.specs.declared.node.NodeEntry.{NodeEntry}
use Rattle.journals.specs.Acts.{NodeState, is_spent, handles, late_act}
use Rattle.journals.specs.Steps.{side}
use Rattle.locked_nodes.specs.declared.charter.Charter.{Charter}
use Rattle.locked_nodes.specs.declared.charter.Item.{Item}
use Rattle.locked_nodes.specs.declared.charter.Item.TheVariants.{Head, Entry}
use Rattle.locked_nodes.specs.Cells.{CellView, HasMoreAside, BroughtLate, state_of, entry, with_entry, items}
use Rattle.lists.proofs.lemmas.Members.{Contains-none, Contains-one}

pub aside_none : (c : CellView) → HasMoreAside c c
aside_none c = record { charter = refl; clock = refl; more = []; grew = append_nil c.journal; aside = λ e there. absurd (Contains-none e there) }

pub aside_one : (c : CellView) (n : ℕ) (done : NodeAct) → side done ≡ None → HasMoreAside c (with_entry c n done)
aside_one c n done none = record {
  charter = refl;
  clock = refl;
  more = entry n done ∷ [];
  grew = refl;
  aside = λ e there. ap (λ (x : NodeEntry). side x.act) (Contains-one e (entry n done) there) ∙ none;
}

pub aside_then : (a b c : CellView) → HasMoreAside a b → HasMoreAside b c → HasMoreAside a c
aside_then a b c x y = record {
  charter = y.charter ∙ x.charter;
  clock = y.clock ∙ x.clock;
  more = x.more ++ y.more;
  grew = y.grew ∙ ap (λ (l : List NodeEntry). l ++ y.more) x.grew ∙ append_assoc a.journal x.more y.more;
  aside = λ e there. elim (Contains-append_cases x.more y.more e there) [ inl early ↦ x.aside e early | inr late ↦ y.aside e late ];
}

-- an act that comes late has no client's side
handles_side : (s : NodeState) (nature : Nature) (ask : Message) → side (handles s nature ask) ≡ None
handles_side s Honest ask = refl
handles_side s (Lies rule) ask = refl

late_by : (s : NodeState) (nature : Nature) (ask : Message) (crashed spent : Bool)
    → side (if crashed then LateLost ask else (if spent then CrashedAt ask true else handles s nature ask)) ≡ None
late_by s nature ask true spent = refl
late_by s nature ask false true = refl
late_by s nature ask false false = handles_side s nature ask

late_side : (s : NodeState) (nature : Nature) (ask : Message) → side (late_act s nature ask) ≡ None
late_side s nature ask = late_by s nature ask s.crashed (is_spent s.crash_after)

pub aside_late : (old new : CellView) (n : ℕ) → BroughtLate old n new → HasMoreAside old new
aside_late old new n late =
    subst (HasMoreAside old) (sym late.cell) (aside_one old n (late_act (state_of old) old.charter.nature late.ask) (late_side (state_of old) old.charter.nature late.ask))

-- the cell's list begins as it did
pub aside_items : (old new : CellView) (h : HasMoreAside old new) → items new ≡ items old ++ map (λ (e : NodeEntry). Entry e) h.more
aside_items old new h =
    let list : map (λ (e : NodeEntry). Entry e) new.journal ≡ map (λ (e : NodeEntry). Entry e) old.journal ++ map (λ (e : NodeEntry). Entry e) h.more =
    ap (map (λ (e : NodeEntry). Entry e)) h.grew ∙ map-append (λ (e : NodeEntry). Entry e) old.journal h.more in
    ap (λ (c : Charter). Head c ∷ map (λ (e : NodeEntry). Entry e) new.journal) h.charter ∙ ap (λ (l : List Item). Head old.charter ∷ l) list
