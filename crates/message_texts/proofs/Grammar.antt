-- The forms have the texts of messages, and no others.
use Rattle.std.proofs.Common.{◌≡◌, ℕ, ◌≤◌, List, [], ◌∷◌, ◌++◌, refl, sym, ap, subst, ◌∙◌, append_assoc, arith, inl, inr}
use Rattle.std.specs.Prelude.{decimal, codes}
use Rattle.std.specs.List.{AllByRecursion, join_with_byte}
use Rattle.std.proofs.lemmas.List.{append-nil}
use Rattle.hex.specs.Hex.{encode_lower}
use Rattle.cross_sum.specs.Digest.{flat}
use Rattle.text_lines.specs.Fields.{value_text}
use Rattle.stamp_order.specs.declared.Stamp.{Stamp}
use Rattle.stamp_order.specs.declared.Bound.TheVariants.{All as Every, AtMost, Below}
use Rattle.wire_forms.specs.declared.message.Version.{Version}
use Rattle.wire_forms.specs.declared.message.Request.{Request}
use Rattle.wire_forms.specs.declared.message.Request.TheVariants.{Time, Read, Write}
use Rattle.wire_forms.specs.declared.message.Reason.{Reason}
use Rattle.wire_forms.specs.declared.message.Reason.TheVariants.{BadBlock, BadLength, TimeZero, BadVerifier, BadDigest}
use Rattle.wire_forms.specs.declared.message.Reply.{Reply}
use Rattle.wire_forms.specs.declared.message.Reply.TheVariants.{TimeIs, Found, Nothing, Ack, Refused}
use Rattle.wire_forms.specs.declared.message.Body.{Body}
use Rattle.wire_forms.specs.declared.message.Body.TheVariants.{Ask as Asks, Answer as Answers}
use Rattle.wire_forms.specs.declared.message.Message.{Message}
use Rattle.message_texts.specs.declared.piece.Piece.TheVariants.{Byte, Number, Digits}
use Rattle.message_texts.specs.Texts.{IsStamp, IsVersion, IsRequest, IsReply, IsBody, IsMessage, IsText, stamp_text, sum_text, request_fields, reply_fields, text_of}
use Rattle.message_texts.specs.Pieces.{IsPiece, piece_of, IsForm, IsOfForms, message_forms}
use Rattle.message_texts.proofs.lemmas.Digits.{hash_digits, hash_of_digits, sum_digits, sum_of_digits, fragment_digits, fragment_of_digits}

-- ---- pieces at the front of a form

-- each byte stands for itself
abbrev Plain : List ℕ → Type 0
Plain word = AllByRecursion (λ c. piece_of c ≡ Byte c) word

plain : (word form x : List ℕ) → Plain word → IsForm form x → IsForm (word ++ form) (word ++ x)
plain [] form x p h = h
plain (c ∷ word) form x p h = (c ∷ [], word ++ x, refl, rw p.0 refl, plain word form x p.1 h)

unplain : (word form text : List ℕ) → Plain word → IsForm (word ++ form) text → (x : List ℕ) × (text ≡ word ++ x) × IsForm form x
unplain [] form text p h = (text, refl, h)
unplain (c ∷ word) form text p h =
    let first : h.0 ≡ c ∷ [] = rw p.0 at h.3 in
    let more = unplain word form h.1 p.1 h.4 in
    (more.0, h.2 ∙ ap (λ (y : List ℕ). y ++ h.1) first ∙ ap (λ (y : List ℕ). c ∷ y) more.1, more.2)

number : (letter most n : ℕ) (form x : List ℕ) → piece_of letter ≡ Number most → n ≤ most → IsForm form x → IsForm (letter ∷ form) (decimal n ++ x)
number letter most n form x p le h = (decimal n, x, refl, rw p (n, le, refl), h)

unnumber : (letter most : ℕ) (form text : List ℕ) → piece_of letter ≡ Number most → IsForm (letter ∷ form) text → (n : ℕ) × (n ≤ most) × (x : List ℕ) × (text ≡ decimal n ++ x) × IsForm form x
unnumber letter most form text p h =
    let is = rw p at h.3 in
    (is.0, is.1, h.1, h.2 ∙ ap (λ (y : List ℕ). y ++ h.1) is.2, h.4)

digits : (letter group least most : ℕ) (d form x : List ℕ) → piece_of letter ≡ Digits group least most → IsPiece (Digits group least most) d → IsForm form x → IsForm (letter ∷ form) (d ++ x)
digits letter group least most d form x p is h = (d, x, refl, rw p is, h)

undigits : (letter group least most : ℕ) (form text : List ℕ) → piece_of letter ≡ Digits group least most → IsForm (letter ∷ form) text → (d : List ℕ) × IsPiece (Digits group least most) d × (x : List ℕ) × (text ≡ d ++ x) × IsForm form x
undigits letter group least most form text p h = (h.0, rw p at h.3, h.1, h.2, h.4)

-- ---- stamps and versions

stamp_form : (s : Stamp) (form x : List ℕ) → IsStamp s → IsForm form x → IsForm (codes "N.C.H" ++ form) (stamp_text s ++ x)
stamp_form s form x h more =
    let t = h.time in
    let c = h.client in
    let hash = digits 72 64 64 64 (encode_lower s.verifier) form x refl (hash_digits s.verifier h.verifier) more in
    let client = number 67 4294967295 s.client (codes ".H" ++ form) (46 ∷ (encode_lower s.verifier ++ x)) refl (omega arith) (plain (46 ∷ []) (72 ∷ form) (encode_lower s.verifier ++ x) (refl, tt) hash) in
    let whole = number 78 18446744073709551615 s.time (codes ".C.H" ++ form) (46 ∷ (decimal s.client ++ 46 ∷ (encode_lower s.verifier ++ x))) refl (omega arith) (plain (46 ∷ []) (codes "C.H" ++ form) (decimal s.client ++ 46 ∷ (encode_lower s.verifier ++ x)) (refl, tt) client) in
    subst (IsForm (codes "N.C.H" ++ form)) (simp append_assoc) whole

unstamp : (form text : List ℕ) → IsForm (codes "N.C.H" ++ form) text → (s : Stamp) × IsStamp s × (x : List ℕ) × (text ≡ stamp_text s ++ x) × IsForm form x
unstamp form text h =
    let time = unnumber 78 18446744073709551615 (codes ".C.H" ++ form) text refl h in
    let dot = unplain (46 ∷ []) (codes "C.H" ++ form) time.2 (refl, tt) time.4 in
    let client = unnumber 67 4294967295 (codes ".H" ++ form) dot.0 refl dot.2 in
    let again = unplain (46 ∷ []) (codes "H" ++ form) client.2 (refl, tt) client.4 in
    let hash = undigits 72 64 64 64 form again.0 refl again.2 in
    let v = hash_of_digits hash.0 hash.1 in
    let t = time.1 in
    let c = client.1 in
    let whole : text ≡ decimal time.0 ++ (46 ∷ (decimal client.0 ++ (46 ∷ (encode_lower v.0 ++ hash.2)))) =
    time.3 ∙ ap (λ (y : List ℕ). decimal time.0 ++ y)
    (dot.1 ∙ ap (λ (y : List ℕ). 46 ∷ y) (client.3 ∙ ap (λ (y : List ℕ). decimal client.0 ++ y) (again.1 ∙ ap (λ (y : List ℕ). 46 ∷ y) (hash.3 ∙ ap (λ (y : List ℕ). y ++ hash.2) v.1)))) in (
      record { time = time.0; client = client.0; verifier = v.0 },
      record { time = omega arith; client = omega arith; verifier = v.2 },
      hash.2,
      whole ∙ simp append_assoc,
      hash.4,
    )

version_text : Version → List ℕ
version_text v = stamp_text v.stamp ++ (32 ∷ (sum_text v.sum ++ (32 ∷ value_text v.fragment)))

version_form : (v : Version) → IsVersion v → IsForm (codes "N.C.H xS xF") (version_text v)
unfolding version_text
version_form v h =
    let fragment = digits 70 2 0 32768 (encode_lower v.fragment) [] [] refl (fragment_digits v.fragment h.fragment) refl in
    let last = plain (codes " x") (70 ∷ []) (encode_lower v.fragment ++ []) (refl, (refl, tt)) fragment in
    let sum = digits 83 64 0 2048 (encode_lower (flat v.sum)) (codes " xF") (codes " x" ++ (encode_lower v.fragment ++ [])) refl (sum_digits v.sum h.sum) last in
    let middle = plain (codes " x") (codes "S xF") (encode_lower (flat v.sum) ++ (codes " x" ++ (encode_lower v.fragment ++ []))) (refl, (refl, tt)) sum in
    let whole = stamp_form v.stamp (codes " xS xF") (codes " x" ++ (encode_lower (flat v.sum) ++ (codes " x" ++ (encode_lower v.fragment ++ [])))) h.stamp middle in
    subst (IsForm (codes "N.C.H xS xF")) (ap (λ (y : List ℕ). stamp_text v.stamp ++ (codes " x" ++ (encode_lower (flat v.sum) ++ (codes " x" ++ y)))) (append-nil (encode_lower v.fragment))) whole

unversion : (text : List ℕ) → IsForm (codes "N.C.H xS xF") text → (v : Version) × IsVersion v × (text ≡ version_text v)
unfolding version_text
unversion text h =
    let stamp = unstamp (codes " xS xF") text h in
    let first = unplain (codes " x") (codes "S xF") stamp.2 (refl, (refl, tt)) stamp.4 in
    let sum = undigits 83 64 0 2048 (codes " xF") first.0 refl first.2 in
    let second = unplain (codes " x") (codes "F") sum.2 (refl, (refl, tt)) sum.4 in
    let fragment = undigits 70 2 0 32768 [] second.0 refl second.2 in
    let s = sum_of_digits sum.0 sum.1 in
    let f = fragment_of_digits fragment.0 fragment.1 in
    let end : fragment.2 ≡ [] = fragment.4 in
    let last : second.0 ≡ encode_lower f.0 = fragment.3 ∙ ap (λ (y : List ℕ). fragment.0 ++ y) end ∙ append-nil fragment.0 ∙ f.1 in (
      record { stamp = stamp.0; sum = s.0; fragment = f.0 },
      record { stamp = stamp.1; sum = s.2; fragment = f.2 },
      stamp.3 ∙ ap (λ (y : List ℕ). stamp_text stamp.0 ++ y)
          (first.1 ∙ ap (λ (y : List ℕ). codes " x" ++ y) (sum.3 ∙ ap (λ (y : List ℕ). y ++ sum.2) s.1 ∙ ap (λ (y : List ℕ). encode_lower (flat s.0) ++ y) (second.1 ∙ ap (λ (y : List ℕ). codes " x" ++ y) last))),
    )

-- ---- words and numbers with a space behind

word_back : (word x : List ℕ) → Plain word → IsForm (word ++ []) x → x ≡ word
word_back word x p h = let u = unplain word [] x p h in u.1 ∙ ap (λ (y : List ℕ). word ++ y) u.2 ∙ append-nil word

word_form : (word : List ℕ) → Plain word → IsForm (word ++ []) (word ++ [])
word_form word p = plain word [] [] p refl

spaced : (letter most n : ℕ) (form x : List ℕ) → piece_of letter ≡ Number most → n ≤ most → IsForm form x → IsForm (letter ∷ 32 ∷ form) (decimal n ++ (32 ∷ x))
spaced letter most n form x p le h = number letter most n (32 ∷ form) (32 ∷ x) p le (plain (32 ∷ []) form x (refl, tt) h)

unspaced : (letter most : ℕ) (form text : List ℕ) → piece_of letter ≡ Number most → IsForm (letter ∷ 32 ∷ form) text → (n : ℕ) × (n ≤ most) × (x : List ℕ) × (text ≡ decimal n ++ (32 ∷ x)) × IsForm form x
unspaced letter most form text p h =
    let u = unnumber letter most (32 ∷ form) text p h in
    let s = unplain (32 ∷ []) form u.2 (refl, tt) u.4 in
    (u.0, u.1, s.0, u.3 ∙ ap (λ (y : List ℕ). decimal u.0 ++ y) s.1, s.2)

-- ---- what asks and answers begin with

-- client, node and tag
record Head : Type 0 where
  client : ℕ
  node : ℕ
  op : ℕ
  phase : ℕ

record IsHead (h : Head) : Type 0 where
  client : h.client ≤ 4294967295
  node : h.node ≤ 255
  op : h.op ≤ 18446744073709551615
  phase : h.phase ≤ 18446744073709551615

head_text : Head → List ℕ → List ℕ
head_text h x = decimal h.client ++ (32 ∷ (decimal h.node ++ (32 ∷ (decimal h.op ++ (32 ∷ (decimal h.phase ++ x))))))

head_form : (h : Head) (form x : List ℕ) → IsHead h → IsForm (32 ∷ form) x → IsForm (codes "C I N N " ++ form) (head_text h x)
unfolding head_text
head_form h form x is more =
    spaced 67 4294967295 h.client (codes "I N N " ++ form) (decimal h.node ++ (32 ∷ (decimal h.op ++ (32 ∷ (decimal h.phase ++ x))))) refl is.client
    (spaced 73 255 h.node (codes "N N " ++ form) (decimal h.op ++ (32 ∷ (decimal h.phase ++ x))) refl is.node
    (spaced 78 18446744073709551615 h.op (codes "N " ++ form) (decimal h.phase ++ x) refl is.op
    (number 78 18446744073709551615 h.phase (32 ∷ form) x refl is.phase more)))

unhead : (form text : List ℕ) → IsForm (codes "C I N N " ++ form) text → (h : Head) × IsHead h × (x : List ℕ) × (text ≡ head_text h (32 ∷ x)) × IsForm form x
unfolding head_text
unhead form text f =
    let client = unspaced 67 4294967295 (codes "I N N " ++ form) text refl f in
    let node = unspaced 73 255 (codes "N N " ++ form) client.2 refl client.4 in
    let op = unspaced 78 18446744073709551615 (codes "N " ++ form) node.2 refl node.4 in
    let phase = unspaced 78 18446744073709551615 form op.2 refl op.4 in (
      record { client = client.0; node = node.0; op = op.0; phase = phase.0 },
      record { client = client.1; node = node.1; op = op.1; phase = phase.1 },
      phase.2,
      client.3 ∙ ap (λ (y : List ℕ). decimal client.0 ++ (32 ∷ y)) (node.3 ∙ ap (λ (y : List ℕ). decimal node.0 ++ (32 ∷ y)) (op.3 ∙ ap (λ (y : List ℕ). decimal op.0 ++ (32 ∷ y)) phase.3)),
      phase.4,
    )

message_with : Head → Body → Message
message_with h body = record { client = h.client; node = h.node; tag = record { op = h.op; phase = h.phase }; body = body }

with_is : (h : Head) (body : Body) → IsHead h → IsBody body → IsMessage (message_with h body)
unfolding message_with
with_is h body is b =
    let c = is.client in
    let n = is.node in
    let o = is.op in
    let p = is.phase in
    record { client = omega arith; node = omega arith; op = omega arith; phase = omega arith; body = b }

-- ---- asks

ask_form : (h : Head) (block : ℕ) (form x : List ℕ) → IsHead h → block ≤ 4294967295 → IsForm form x → IsForm (codes "ask C I N N C " ++ form) (codes "ask " ++ head_text h (32 ∷ (decimal block ++ (32 ∷ x))))
ask_form h block form x is le more =
    plain (codes "ask ") (codes "C I N N C " ++ form) (head_text h (32 ∷ (decimal block ++ (32 ∷ x)))) (refl, (refl, (refl, (refl, tt))))
    (head_form h (codes "C " ++ form) (32 ∷ (decimal block ++ (32 ∷ x))) is
    (plain (32 ∷ []) (codes "C " ++ form) (decimal block ++ (32 ∷ x)) (refl, tt) (spaced 67 4294967295 block form x refl le more)))

-- the text is the rest of a request's
RequestTail : List ℕ → Type 0
RequestTail x = (r : Request) × IsRequest r × ((b : List ℕ) → join_with_byte 32 (b ∷ request_fields r) ≡ b ++ (32 ∷ x))

from_ask : (form text : List ℕ) → ((x : List ℕ) → IsForm form x → RequestTail x) → IsForm (codes "ask C I N N C " ++ form) text → IsText text
unfolding RequestTail message_with head_text
from_ask form text tails f =
    let word = unplain (codes "ask ") (codes "C I N N C " ++ form) text (refl, (refl, (refl, (refl, tt)))) f in
    let head = unhead (codes "C " ++ form) word.0 word.2 in
    let block = unspaced 67 4294967295 form head.2 refl head.4 in
    let tail = tails block.2 block.4 in
    let h = head.0 in
    let body : Body = Asks (record { block = block.0; request = tail.0 }) in
    let le = block.1 in
    let is : IsBody body = record { block = omega arith; request = tail.1 } in (
      message_with h body,
      with_is h body head.1 is,
      word.1 ∙ ap (λ (y : List ℕ). codes "ask " ++ y) (head.3 ∙ ap (λ (y : List ℕ). head_text h (32 ∷ y)) (block.3 ∙ sym (tail.2 (decimal block.0)))),
    )

time_back : (x : List ℕ) → IsForm (codes "time") x → RequestTail x
unfolding RequestTail
time_back x f = let e = word_back (codes "time") x (refl, (refl, (refl, (refl, tt)))) f in (Time, tt, λ b. ap (λ (y : List ℕ). b ++ (32 ∷ y)) (sym e))

read_all_back : (x : List ℕ) → IsForm (codes "read all") x → RequestTail x
unfolding RequestTail
read_all_back x f =
    let e = word_back (codes "read all") x (refl, (refl, (refl, (refl, (refl, (refl, (refl, (refl, tt)))))))) f in
    (Read Every, tt, λ b. ap (λ (y : List ℕ). b ++ (32 ∷ y)) (sym e))

read_atmost_back : (x : List ℕ) → IsForm (codes "read atmost N.C.H") x → RequestTail x
unfolding RequestTail
read_atmost_back x f =
    let word = unplain (codes "read atmost ") (codes "N.C.H") x (refl, (refl, (refl, (refl, (refl, (refl, (refl, (refl, (refl, (refl, (refl, (refl, tt)))))))))))) f in
    let s = unstamp [] word.0 word.2 in
    let last : word.0 ≡ stamp_text s.0 = s.3 ∙ ap (λ (y : List ℕ). stamp_text s.0 ++ y) s.4 ∙ append-nil (stamp_text s.0) in
    (Read (AtMost s.0), s.1, λ b. ap (λ (y : List ℕ). b ++ (32 ∷ y)) (sym (word.1 ∙ ap (λ (y : List ℕ). codes "read atmost " ++ y) last)))

read_below_back : (x : List ℕ) → IsForm (codes "read below N.C.H") x → RequestTail x
unfolding RequestTail
read_below_back x f =
    let word = unplain (codes "read below ") (codes "N.C.H") x (refl, (refl, (refl, (refl, (refl, (refl, (refl, (refl, (refl, (refl, (refl, tt))))))))))) f in
    let s = unstamp [] word.0 word.2 in
    let last : word.0 ≡ stamp_text s.0 = s.3 ∙ ap (λ (y : List ℕ). stamp_text s.0 ++ y) s.4 ∙ append-nil (stamp_text s.0) in
    (Read (Below s.0), s.1, λ b. ap (λ (y : List ℕ). b ++ (32 ∷ y)) (sym (word.1 ∙ ap (λ (y : List ℕ). codes "read below " ++ y) last)))

write_back : (x : List ℕ) → IsForm (codes "write N.C.H xS xF") x → RequestTail x
unfolding RequestTail version_text
write_back x f =
    let word = unplain (codes "write ") (codes "N.C.H xS xF") x (refl, (refl, (refl, (refl, (refl, (refl, tt)))))) f in
    let v = unversion word.0 word.2 in
    (Write v.0, v.1, λ b. ap (λ (y : List ℕ). b ++ (32 ∷ y)) (sym (word.1 ∙ ap (λ (y : List ℕ). codes "write " ++ y) v.2)))

-- ---- answers

answer_form : (h : Head) (form x : List ℕ) → IsHead h → IsForm form x → IsForm (codes "answer C I N N " ++ form) (codes "answer " ++ head_text h (32 ∷ x))
answer_form h form x is more =
    plain (codes "answer ") (codes "C I N N " ++ form) (head_text h (32 ∷ x)) (refl, (refl, (refl, (refl, (refl, (refl, (refl, tt)))))))
    (head_form h form (32 ∷ x) is (plain (32 ∷ []) form x (refl, tt) more))

-- the text is the rest of a reply's
ReplyTail : List ℕ → Type 0
ReplyTail x = (r : Reply) × IsReply r × ((b : List ℕ) → join_with_byte 32 (b ∷ reply_fields r) ≡ b ++ (32 ∷ x))

from_answer : (form text : List ℕ) → ((x : List ℕ) → IsForm form x → ReplyTail x) → IsForm (codes "answer C I N N " ++ form) text → IsText text
unfolding ReplyTail message_with head_text
from_answer form text tails f =
    let word = unplain (codes "answer ") (codes "C I N N " ++ form) text (refl, (refl, (refl, (refl, (refl, (refl, (refl, tt))))))) f in
    let head = unhead form word.0 word.2 in
    let tail = tails head.2 head.4 in
    let h = head.0 in
    let body : Body = Answers tail.0 in (
      message_with h body,
      with_is h body head.1 tail.1,
      word.1 ∙ ap (λ (y : List ℕ). codes "answer " ++ y)
          (head.3 ∙ ap (λ (y : List ℕ). decimal h.client ++ (32 ∷ (decimal h.node ++ (32 ∷ (decimal h.op ++ (32 ∷ y)))))) (sym (tail.2 (decimal h.phase)))),
    )

time_is_back : (x : List ℕ) → IsForm (codes "time N") x → ReplyTail x
unfolding ReplyTail
time_is_back x f =
    let word = unplain (codes "time ") (codes "N") x (refl, (refl, (refl, (refl, (refl, tt))))) f in
    let time = unnumber 78 18446744073709551615 [] word.0 refl word.2 in
    let le = time.1 in
    let last : word.0 ≡ decimal time.0 = time.3 ∙ ap (λ (y : List ℕ). decimal time.0 ++ y) time.4 ∙ append-nil (decimal time.0) in
    (TimeIs time.0, omega arith, λ b. ap (λ (y : List ℕ). b ++ (32 ∷ y)) (sym (word.1 ∙ ap (λ (y : List ℕ). codes "time " ++ y) last)))

found_back : (x : List ℕ) → IsForm (codes "found N.C.H xS xF") x → ReplyTail x
unfolding ReplyTail version_text
found_back x f =
    let word = unplain (codes "found ") (codes "N.C.H xS xF") x (refl, (refl, (refl, (refl, (refl, (refl, tt)))))) f in
    let v = unversion word.0 word.2 in
    (Found v.0, v.1, λ b. ap (λ (y : List ℕ). b ++ (32 ∷ y)) (sym (word.1 ∙ ap (λ (y : List ℕ). codes "found " ++ y) v.2)))

nothing_back : (x : List ℕ) → IsForm (codes "nothing") x → ReplyTail x
unfolding ReplyTail
nothing_back x f =
    let e = word_back (codes "nothing") x (refl, (refl, (refl, (refl, (refl, (refl, (refl, tt))))))) f in (Nothing, tt, λ b. ap (λ (y : List ℕ). b ++ (32 ∷ y)) (sym e))

ack_back : (x : List ℕ) → IsForm (codes "ack") x → ReplyTail x
unfolding ReplyTail
ack_back x f = let e = word_back (codes "ack") x (refl, (refl, (refl, tt))) f in (Ack, tt, λ b. ap (λ (y : List ℕ). b ++ (32 ∷ y)) (sym e))

refused_back : (r : Reason) (digit : ℕ) → piece_of digit ≡ Byte digit → ((b : List ℕ) → join_with_byte 32 (b ∷ reply_fields (Refused r)) ≡ b ++ (32 ∷ (codes "refused " ++ digit ∷ []))) → (x : List ℕ) → IsForm (codes "refused " ++ digit ∷ []) x → ReplyTail x
unfolding ReplyTail
refused_back r digit p text x f =
    let e = word_back (codes "refused " ++ digit ∷ []) x (refl, (refl, (refl, (refl, (refl, (refl, (refl, (refl, (p, tt))))))))) f in
    (Refused r, tt, λ b. text b ∙ ap (λ (y : List ℕ). b ++ (32 ∷ y)) (sym e))

-- what a form has is a message's text
pub text_of_form : (t : List ℕ) → IsOfForms message_forms t → IsText t
text_of_form t (inl f) = from_ask (codes "time") t time_back f
text_of_form t (inr (inl f)) = from_ask (codes "read all") t read_all_back f
text_of_form t (inr (inr (inl f))) = from_ask (codes "read atmost N.C.H") t read_atmost_back f
text_of_form t (inr (inr (inr (inl f)))) = from_ask (codes "read below N.C.H") t read_below_back f
text_of_form t (inr (inr (inr (inr (inl f))))) = from_ask (codes "write N.C.H xS xF") t write_back f
text_of_form t (inr (inr (inr (inr (inr (inl f)))))) = from_answer (codes "time N") t time_is_back f
text_of_form t (inr (inr (inr (inr (inr (inr (inl f))))))) = from_answer (codes "found N.C.H xS xF") t found_back f
text_of_form t (inr (inr (inr (inr (inr (inr (inr (inl f)))))))) = from_answer (codes "nothing") t nothing_back f
text_of_form t (inr (inr (inr (inr (inr (inr (inr (inr (inl f))))))))) = from_answer (codes "ack") t ack_back f
text_of_form t (inr (inr (inr (inr (inr (inr (inr (inr (inr (inl f)))))))))) = from_answer (codes "refused 1") t (refused_back BadBlock 49 refl (λ b. refl)) f
text_of_form t (inr (inr (inr (inr (inr (inr (inr (inr (inr (inr (inl f))))))))))) = from_answer (codes "refused 2") t (refused_back BadLength 50 refl (λ b. refl)) f
text_of_form t (inr (inr (inr (inr (inr (inr (inr (inr (inr (inr (inr (inl f)))))))))))) = from_answer (codes "refused 3") t (refused_back TimeZero 51 refl (λ b. refl)) f
text_of_form t (inr (inr (inr (inr (inr (inr (inr (inr (inr (inr (inr (inr (inl f))))))))))))) = from_answer (codes "refused 4") t (refused_back BadVerifier 52 refl (λ b. refl)) f
text_of_form t (inr (inr (inr (inr (inr (inr (inr (inr (inr (inr (inr (inr (inr (inl f)))))))))))))) = from_answer (codes "refused 5") t (refused_back BadDigest 53 refl (λ b. refl)) f
text_of_form t (inr (inr (inr (inr (inr (inr (inr (inr (inr (inr (inr (inr (inr (inr never)))))))))))))) = absurd never

-- ---- a message's text has a form

of_request : (h : Head) (block : ℕ) (r : Request) → IsHead h → block ≤ 4294967295 → IsRequest r → IsOfForms message_forms (text_of (message_with h (Asks (record { block = block; request = r }))))
unfolding message_with head_text version_text
of_request h block Time is le req = inl (ask_form h block (codes "time") (codes "time") is le (word_form (codes "time") (refl, (refl, (refl, (refl, tt))))))
of_request h block (Read Every) is le req =
    inr (inl (ask_form h block (codes "read all") (codes "read all") is le (word_form (codes "read all") (refl, (refl, (refl, (refl, (refl, (refl, (refl, (refl, tt)))))))))))
of_request h block (Read (AtMost s)) is le req =
    let stamp = subst (IsForm (codes "N.C.H")) (append-nil (stamp_text s)) (stamp_form s [] [] req refl) in
    inr (inr (inl (ask_form h block (codes "read atmost N.C.H") (codes "read atmost " ++ stamp_text s) is le
    (plain (codes "read atmost ") (codes "N.C.H") (stamp_text s) (refl, (refl, (refl, (refl, (refl, (refl, (refl, (refl, (refl, (refl, (refl, (refl, tt)))))))))))) stamp))))
of_request h block (Read (Below s)) is le req =
    let stamp = subst (IsForm (codes "N.C.H")) (append-nil (stamp_text s)) (stamp_form s [] [] req refl) in
    inr (inr (inr (inl (ask_form h block (codes "read below N.C.H") (codes "read below " ++ stamp_text s) is le
    (plain (codes "read below ") (codes "N.C.H") (stamp_text s) (refl, (refl, (refl, (refl, (refl, (refl, (refl, (refl, (refl, (refl, (refl, tt))))))))))) stamp)))))
of_request h block (Write v) is le req =
    inr (inr (inr (inr (inl (ask_form h block (codes "write N.C.H xS xF") (codes "write " ++ version_text v) is le
    (plain (codes "write ") (codes "N.C.H xS xF") (version_text v) (refl, (refl, (refl, (refl, (refl, (refl, tt)))))) (version_form v req)))))))

refused_form : (digit : ℕ) → piece_of digit ≡ Byte digit → IsForm (codes "refused " ++ digit ∷ []) (codes "refused " ++ digit ∷ [])
refused_form digit p = word_form (codes "refused " ++ digit ∷ []) (refl, (refl, (refl, (refl, (refl, (refl, (refl, (refl, (p, tt)))))))))

of_reply : (h : Head) (r : Reply) → IsHead h → IsReply r → IsOfForms message_forms (text_of (message_with h (Answers r)))
unfolding message_with head_text version_text
of_reply h (TimeIs time) is rep =
    let last = subst (IsForm (codes "N")) (append-nil (decimal time)) (number 78 18446744073709551615 time [] [] refl (omega arith) refl) in
    inr (inr (inr (inr (inr (inl (answer_form h (codes "time N") (codes "time " ++ decimal time) is (plain (codes "time ") (codes "N") (decimal time) (refl, (refl, (refl, (refl, (refl, tt))))) last)))))))
of_reply h (Found v) is rep =
    inr (inr (inr (inr (inr (inr (inl (answer_form h (codes "found N.C.H xS xF") (codes "found " ++ version_text v) is
    (plain (codes "found ") (codes "N.C.H xS xF") (version_text v) (refl, (refl, (refl, (refl, (refl, (refl, tt)))))) (version_form v rep)))))))))
of_reply h Nothing is rep =
    inr (inr (inr (inr (inr (inr (inr (inl (answer_form h (codes "nothing") (codes "nothing") is (word_form (codes "nothing") (refl, (refl, (refl, (refl, (refl, (refl, (refl, tt))))))))))))))))
of_reply h Ack is rep =
    inr (inr (inr (inr (inr (inr (inr (inr (inl (answer_form h (codes "ack") (codes "ack") is (word_form (codes "ack") (refl, (refl, (refl, tt)))))))))))))
of_reply h (Refused BadBlock) is rep =
    inr (inr (inr (inr (inr (inr (inr (inr (inr (inl (answer_form h (codes "refused 1") (codes "refused 1") is (refused_form 49 refl)))))))))))
of_reply h (Refused BadLength) is rep =
    inr (inr (inr (inr (inr (inr (inr (inr (inr (inr (inl (answer_form h (codes "refused 2") (codes "refused 2") is (refused_form 50 refl))))))))))))
of_reply h (Refused TimeZero) is rep =
    inr (inr (inr (inr (inr (inr (inr (inr (inr (inr (inr (inl (answer_form h (codes "refused 3") (codes "refused 3") is (refused_form 51 refl)))))))))))))
of_reply h (Refused BadVerifier) is rep =
    inr (inr (inr (inr (inr (inr (inr (inr (inr (inr (inr (inr (inl (answer_form h (codes "refused 4") (codes "refused 4") is (refused_form 52 refl))))))))))))))
of_reply h (Refused BadDigest) is rep =
    inr (inr (inr (inr (inr (inr (inr (inr (inr (inr (inr (inr (inr (inl (answer_form h (codes "refused 5") (codes "refused 5") is (refused_form 53 refl)))))))))))))))

of_body : (h : Head) (body : Body) → IsHead h → IsBody body → IsOfForms message_forms (text_of (message_with h body))
of_body h (Asks ask) is b = let le = b.block in of_request h ask.block ask.request is (omega arith) b.request
of_body h (Answers reply) is b = of_reply h reply is b

-- a message's text is what a form has
pub form_of_text : (t : List ℕ) → IsText t → IsOfForms message_forms t
unfolding message_with
form_of_text t is =
    let m = is.0 in
    let c = is.1.client in
    let n = is.1.node in
    let o = is.1.op in
    let p = is.1.phase in
    let h : Head = record { client = m.client; node = m.node; op = m.tag.op; phase = m.tag.phase } in
    let ranges : IsHead h = record { client = omega arith; node = omega arith; op = omega arith; phase = omega arith } in
    subst (IsOfForms message_forms) (sym is.2) (of_body h m.body ranges is.1.body)
