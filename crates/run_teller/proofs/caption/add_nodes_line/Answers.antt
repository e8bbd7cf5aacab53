use Rattle.std.proofs.Common.{◌≡◌, ℕ, ◌++◌, ap, ◌∙◌, subst}
use Rattle.std.specs.Prelude.{OnOk, codes, decimal}
use Rattle.run_teller.proofs.Joining.{more_ok}
use Rattle.run_teller.proofs.caption.add_nodes_line.Goals as goal

pub returns : goal.returns
returns c =
    let n = c.args.config.now in
    let r = c.add_count-4.result in
    let new = c.add_count-4.new.text in
    let p7 = decimal (n.m) in
    let q6 = codes "; fragments that give a block back: " in
    let p6 = q6 ++ p7 in
    let q5 = decimal (n.b) in
    let p5 = q5 ++ p6 in
    let q4 = codes "; may lie: " in
    let p4 = q4 ++ p5 in
    let q3 = decimal (n.t) in
    let p3 = q3 ++ p4 in
    let q2 = codes "; may fail: " in
    let p2 = q2 ++ p3 in
    let q1 = decimal (n.n) in
    let p1 = q1 ++ p2 in
    let q0 = codes "nodes: " in
    let p0 = q0 ++ p1 in
    more_ok r c.args.text.now c.add.new.self new q0 p1 c.in_ok-add.ensures.ok
    (more_ok r c.add.new.self c.add_count.new.text new q1 p2 (c.in_ok-add_count.ensures ∙ ap (λ (k : ℕ). c.add.new.self ++ decimal k) c.n.ensures.is)
    (more_ok r c.add_count.new.text c.add-2.new.self new q2 p3 c.in_ok-add-2.ensures.ok
    (more_ok r c.add-2.new.self c.add_count-2.new.text new q3 p4 (c.in_ok-add_count-2.ensures ∙ ap (λ (k : ℕ). c.add-2.new.self ++ decimal k) c.t.ensures.is)
    (more_ok r c.add_count-2.new.text c.add-3.new.self new q4 p5 c.in_ok-add-3.ensures.ok
    (more_ok r c.add-3.new.self c.add_count-3.new.text new q5 p6 (c.in_ok-add_count-3.ensures ∙ ap (λ (k : ℕ). c.add-3.new.self ++ decimal k) c.b.ensures.is)
    (more_ok r c.add_count-3.new.text c.add-4.new.self new q6 p7 c.in_ok-add-4.ensures.ok (subst (λ (k : ℕ). OnOk r (new ≡ c.add-4.new.self ++ decimal k)) c.m.ensures.is c.add_count-4.ensures)))))))
