-- The words of `nbd`.
use Rattle.std.proofs.Common.{◌≡◌, ℕ, ◌^◌, ◌<◌, true, List, [], ◌∷◌, length, get_or, sym, ◌∙◌, refl, arith, lit≤}
use Rattle.std.specs.Prelude.{codes, decimal, string_bytes, Some, None}
use Rattle.std.specs.Str.{bytes_eq}
use Rattle.std.specs.declared.string.String.{String}
use Rattle.std.specs.declared.alloc.Global.{Global}
use Rattle.std.proofs.lemmas.Slice.Eq.{bytes_eq-Decides}
use Rattle.std.proofs.lemmas.Fmt.{decimal_injective}
use Rattle.quorum_rules.specs.Limits.{Numbers, IsValid}
use Rattle.quorum_rules.specs.Faults.{numbers}
use Rattle.quorum_rules.specs.declared.Edition.TheVariants.{One}
use Rattle.quorum_rules.proofs.lemmas.FaultLaws.{size_at_most, blocks_at_most}
use Rattle.text_lines.specs.Fields.{number_of}
use Rattle.text_lines.proofs.lemmas.Numbers.{number_of-some, number_of-text}
use Rattle.command_texts.specs.Words.{texts, nbd_words, IsNbd, AreOfNbd}

-- eight words one by one
pub eight_texts : (words : List (String Global)) (a b c d e f g h : String Global) → length words ≡ 8
    → texts words ≡ string_bytes (get_or words 0 a) ∷ string_bytes (get_or words 1 b) ∷ string_bytes (get_or words 2 c) ∷ string_bytes (get_or words 3 d) ∷ string_bytes (get_or words 4 e) ∷ string_bytes (get_or words 5 f) ∷ string_bytes (get_or words 6 g) ∷ string_bytes (get_or words 7 h) ∷ []
eight_texts (x0 ∷ x1 ∷ x2 ∷ x3 ∷ x4 ∷ x5 ∷ x6 ∷ x7 ∷ []) a b c d e f g h len = refl
eight_texts _ a b c d e f g h len = absurd (omega arith)

pub is_nbd_word : (word : List ℕ) → true ≡ bytes_eq word (codes "nbd") → word ≡ codes "nbd"
is_nbd_word word e = (bytes_eq-Decides word (codes "nbd")).0 (sym e)

-- ---- numbers

-- the numbers of a valid configuration fit their type
record AreSmall (c : Numbers) : Type 0 where
  n : c.n < 2 ^ 32
  t : c.t < 2 ^ 32
  b : c.b < 2 ^ 32
  qc : c.qc < 2 ^ 32
  m : c.m < 2 ^ 32
  size : c.size < 2 ^ 32
  blocks : c.blocks < 2 ^ 32

small : (c : Numbers) → IsValid c → AreSmall c
small c v =
    let size = size_at_most c v in
    let blocks = blocks_at_most c v in
    record { n = omega arith; t = omega arith; b = omega arith; qc = omega arith; m = omega arith; size = omega arith; blocks = omega arith }

same : (m n : ℕ) → m < 2 ^ 32 → n < 2 ^ 32 → decimal m ≡ decimal n → m ≡ n
same m n a b e = decimal_injective m n (omega arith) (omega arith) e

-- numbers that fit and are spelled alike are the same
one : (c d : Numbers) → AreSmall c → AreSmall d → c.edition ≡ d.edition → nbd_words c ≡ nbd_words d → c ≡ d
one c d small_c small_d edition e =
    let n : c.n ≡ d.n = same c.n d.n small_c.n small_d.n cc in
    let t : c.t ≡ d.t = same c.t d.t small_c.t small_d.t cc in
    let b : c.b ≡ d.b = same c.b d.b small_c.b small_d.b cc in
    let qc : c.qc ≡ d.qc = same c.qc d.qc small_c.qc small_d.qc cc in
    let m : c.m ≡ d.m = same c.m d.m small_c.m small_d.m cc in
    let size : c.size ≡ d.size = same c.size d.size small_c.size small_d.size cc in
    let blocks : c.blocks ≡ d.blocks = same c.blocks d.blocks small_c.blocks small_d.blocks cc in
    let all : numbers c.edition c.n c.t c.b c.qc c.m c.size c.blocks ≡ numbers d.edition d.n d.t d.b d.qc d.m d.size d.blocks = cc in
    all

pub one_nbd : (words : List (List ℕ)) (c d : Numbers) → IsNbd words c → IsNbd words d → c ≡ d
one_nbd words c d p q = one c d (small c p.valid) (small d q.valid) (p.edition ∙ sym q.edition) (sym p.spelled ∙ q.spelled)

-- a word that spells no number is none's
unread : (word : List ℕ) (n : ℕ) → None ≡ number_of (2 ^ 32) word → n < 2 ^ 32 → word ≡ decimal n → ⊥
unread word n none lt e =
    let found : None ≡ Some n = none ∙ number_of-text (2 ^ 32) word n e (lit≤ tt) lt in
    absurd cc

module _ (wn wt wb wqc wm wsize wblocks : List ℕ) where
  abbrev pub spelled : List (List ℕ)
  spelled = codes "nbd" ∷ wn ∷ wt ∷ wb ∷ wqc ∷ wm ∷ wsize ∷ wblocks ∷ []

  pub no_n : None ≡ number_of (2 ^ 32) wn → AreOfNbd spelled → ⊥
  no_n none form = let e = form.1.spelled in unread wn form.0.n none (small form.0 form.1.valid).n cc

  pub no_t : None ≡ number_of (2 ^ 32) wt → AreOfNbd spelled → ⊥
  no_t none form = let e = form.1.spelled in unread wt form.0.t none (small form.0 form.1.valid).t cc

  pub no_b : None ≡ number_of (2 ^ 32) wb → AreOfNbd spelled → ⊥
  no_b none form = let e = form.1.spelled in unread wb form.0.b none (small form.0 form.1.valid).b cc

  pub no_qc : None ≡ number_of (2 ^ 32) wqc → AreOfNbd spelled → ⊥
  no_qc none form = let e = form.1.spelled in unread wqc form.0.qc none (small form.0 form.1.valid).qc cc

  pub no_m : None ≡ number_of (2 ^ 32) wm → AreOfNbd spelled → ⊥
  no_m none form = let e = form.1.spelled in unread wm form.0.m none (small form.0 form.1.valid).m cc

  pub no_size : None ≡ number_of (2 ^ 32) wsize → AreOfNbd spelled → ⊥
  no_size none form = let e = form.1.spelled in unread wsize form.0.size none (small form.0 form.1.valid).size cc

  pub no_blocks : None ≡ number_of (2 ^ 32) wblocks → AreOfNbd spelled → ⊥
  no_blocks none form = let e = form.1.spelled in unread wblocks form.0.blocks none (small form.0 form.1.valid).blocks cc

  -- the words spell these numbers
  pub record AreRead (c : Numbers) : Type 0 where
    pub edition : c.edition ≡ One
    pub n : Some c.n ≡ number_of (2 ^ 32) wn
    pub t : Some c.t ≡ number_of (2 ^ 32) wt
    pub b : Some c.b ≡ number_of (2 ^ 32) wb
    pub qc : Some c.qc ≡ number_of (2 ^ 32) wqc
    pub m : Some c.m ≡ number_of (2 ^ 32) wm
    pub size : Some c.size ≡ number_of (2 ^ 32) wsize
    pub blocks : Some c.blocks ≡ number_of (2 ^ 32) wblocks

  read : (c : Numbers) → AreRead c → (spelled ≡ nbd_words c) × AreSmall c
  read c r =
      let rn = number_of-some (2 ^ 32) wn c.n (sym r.n) in
      let rt = number_of-some (2 ^ 32) wt c.t (sym r.t) in
      let rb = number_of-some (2 ^ 32) wb c.b (sym r.b) in
      let rqc = number_of-some (2 ^ 32) wqc c.qc (sym r.qc) in
      let rm = number_of-some (2 ^ 32) wm c.m (sym r.m) in
      let rsize = number_of-some (2 ^ 32) wsize c.size (sym r.size) in
      let rblocks = number_of-some (2 ^ 32) wblocks c.blocks (sym r.blocks) in
      let en : wn ≡ decimal c.n = rn.0 in
      let et : wt ≡ decimal c.t = rt.0 in
      let eb : wb ≡ decimal c.b = rb.0 in
      let eqc : wqc ≡ decimal c.qc = rqc.0 in
      let em : wm ≡ decimal c.m = rm.0 in
      let esize : wsize ≡ decimal c.size = rsize.0 in
      let eblocks : wblocks ≡ decimal c.blocks = rblocks.0 in
      let all : spelled ≡ nbd_words c = cc in
      (all, record { n = rn.1; t = rt.1; b = rb.1; qc = rqc.1; m = rm.1; size = rsize.1; blocks = rblocks.1 })

  -- if they make a configuration, the words are its, and else nobody's
  pub is_nbd : (c : Numbers) → AreRead c → IsValid c → IsNbd spelled c
  is_nbd c r valid = record { edition = r.edition; valid = valid; spelled = (read c r).0 }

  pub no_config : (c : Numbers) → AreRead c → (IsValid c → ⊥) → AreOfNbd spelled → ⊥
  no_config c r bad form =
      let own = read c r in
      let alike : form.0 ≡ c = one form.0 c (small form.0 form.1.valid) own.1 (form.1.edition ∙ sym r.edition) (sym form.1.spelled ∙ own.0) in
      bad (rw alike at form.1.valid)
