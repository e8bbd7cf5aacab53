use Rattle.std.proofs.Common.{◌≡◌, ℕ, List, ◌++◌, ap, ◌∙◌, append_assoc}
use Rattle.picture_svg.specs.Documents.{head_text, looks_text, body_text}
use Rattle.picture_svg.specs.declared.markers.Marker.{Marker}
use Rattle.picture_svg.specs.declared.shapes.Shape.{Shape}
use Rattle.picture_svg.specs.declared.texts.Words.{Words}
use Rattle.picture_svg.proofs.document.written.Goals as goal

pub returns : goal.returns
returns c =
    let p = c.args.parts.now in
    let title : c.as_slice.result.now ≡ p.title = cc in
    let description : c.as_slice-2.result.now ≡ p.description = cc in
    let styles : c.as_slice-3.result.now ≡ p.styles = cc in
    let markers : c.as_slice-4.result.now ≡ p.markers.items = cc in
    let shapes : c.as_slice-5.result.now ≡ p.shapes.items = cc in
    let words : c.as_slice-6.result.now ≡ p.words.items = cc in
    let one = c.add_head.new.text in
    let two = c.add_looks.new.text in
    let three = c.add_body.new.text in
    let front = head_text p.size p.title p.description in
    let middle = looks_text p.styles p.markers.items in
    let back = body_text p.shapes.items p.words.items in
    let head : one ≡ front =
    c.in_ok-add_head.ensures ∙ ap (λ (t : List ℕ). t ++ head_text p.size c.as_slice.result.now c.as_slice-2.result.now) c.new-text.ensures
    ∙ ap (λ (t : List ℕ). head_text p.size t c.as_slice-2.result.now) title ∙ ap (λ (t : List ℕ). head_text p.size p.title t) description in
    let looks : two ≡ one ++ middle =
    c.in_ok-add_looks.ensures ∙ ap (λ (t : List ℕ). one ++ looks_text t c.as_slice-4.result.now) styles ∙ ap (λ (m : List Marker). one ++ looks_text p.styles m) markers in
    let body : three ≡ two ++ back =
    c.in_ok-add_body.ensures ∙ ap (λ (s : List Shape). two ++ body_text s c.as_slice-6.result.now) shapes ∙ ap (λ (w : List Words). two ++ body_text p.shapes.items w) words in
    body ∙ ap (λ (t : List ℕ). t ++ back) (looks ∙ ap (λ (t : List ℕ). t ++ middle) head) ∙ append_assoc front middle back
