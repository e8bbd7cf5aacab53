use Rattle.std.proofs.Common.{◌≡◌, ◌==◌, refl, ◌∙◌}
use Rattle.std.specs.declared.cmp.Ordering.{Ordering}
use Rattle.std.specs.Ordering.{nat_cmp, bool_cmp, ordering_then}
use Rattle.protocol.specs.History.{Kind, is_read}
use Rattle.protocol.specs.History.Kind.{Write, Foreign, Read}
use Rattle.history_making.specs.Drafts.{entry_of}
use Rattle.history_making.proofs.draft.Draft.compare_in_version.Goals as goal
use Rattle.lists.proofs.lemmas.Orders.{then_assoc}

-- reads after the others, by the test and by the number
by_kind : (a b : Kind) → bool_cmp (is_read a == 1) (is_read b == 1) ≡ nat_cmp (is_read a) (is_read b)
by_kind Write Write = refl
by_kind Write Foreign = refl
by_kind Write Read = refl
by_kind Foreign Write = refl
by_kind Foreign Foreign = refl
by_kind Foreign Read = refl
by_kind Read Write = refl
by_kind Read Foreign = refl
by_kind Read Read = refl

in_turn : (a b c d p q r : Ordering) → p ≡ ordering_then a b → q ≡ ordering_then p c → r ≡ ordering_then q d
    → r ≡ ordering_then a (ordering_then b (ordering_then c d))
in_turn a b c d p q r h i j = rw (j, i, h) (simp then_assoc)

pub returns : goal.returns
returns c =
    let k = by_kind (entry_of c.args.self.now).kind (entry_of c.args.other.now).kind in
    let e = c.cmp.ensures in
    let g = rw (c.is_read.ensures, c.is_read-2.ensures) at e in
    let f : c.cmp.result ≡ nat_cmp (is_read (entry_of c.args.self.now).kind) (is_read (entry_of c.args.other.now).kind) = g ∙ k in
    let all = in_turn c.cmp.result c.compare_places.result c.cmp-2.result c.compare_places-2.result c.then.result c.then-2.result c.then-3.result c.then.ensures c.then-2.ensures c.then-3.ensures in
    rw (f, c.compare_places.ensures, c.cmp-2.ensures, c.compare_places-2.ensures) at all
