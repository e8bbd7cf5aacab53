-- Two messages are one or aren't.
use Rattle.std.proofs.Common.{◌≡◌, ◌⊎◌, ℕ, zero, suc, List, [], ◌∷◌, refl, sym, ◌∙◌, ap, inl, inr}
use Rattle.std.proofs.lemmas.Bool.Decides.{eqb_tells}
use Rattle.stamp_order.specs.declared.Bound.TheVariants.{All as Every, AtMost, Below}
use Rattle.wire_forms.specs.declared.message.Request.TheVariants.{Time, Read, Write}
use Rattle.wire_forms.specs.declared.message.Reason.TheVariants.{BadBlock, BadLength, TimeZero, BadVerifier, BadDigest}
use Rattle.wire_forms.specs.declared.message.Reply.TheVariants.{TimeIs, Found, Nothing, Ack, Refused}
use Rattle.wire_forms.specs.declared.message.Body.TheVariants.{Ask as Asks, Answer as Answers}
use Rattle.protocol.specs.Messages.{Stamp, Bound, Tag, Version, Request, Ask, Reason, Reply, Body, Message}

abbrev pub Decided : {A : Type 0} → A → A → Type 0
Decided {A} a b = (a ≡ b) ⊎ (a ≡ b → ⊥)

numbers : (a b : ℕ) → Decided a b
numbers a b = elim (eqb_tells a b) [ inl e ↦ inl e.1 | inr e ↦ inr e.1 ]

-- by what the two are coded as, where the code can be read back
by_code : {A C : Type 0} (code : A → C) (back : C → A) → ((a : A) → back (code a) ≡ a) → (a b : A) → Decided (code a) (code b) → Decided a b
by_code code back same a b (inl e) = inl (sym (same a) ∙ ap back e ∙ same b)
by_code code back same a b (inr n) = inr (λ e. n (ap code e))

pairs : {A B : Type 0} → ((a b : A) → Decided a b) → ((a b : B) → Decided a b) → (p q : A × B) → Decided p q
pairs {A} {B} left right p q = both (left p.0 q.0) (right p.1 q.1)
  where
    both : Decided p.0 q.0 → Decided p.1 q.1 → Decided p q
    both (inl a) (inl b) = inl (λ t. (a t, b t))
    both (inl a) (inr n) = inr (λ e. n (ap (λ (x : A × B). x.1) e))
    both (inr n) other = inr (λ e. n (ap (λ (x : A × B). x.0) e))

lists : {A : Type 0} → ((a b : A) → Decided a b) → (xs ys : List A) → Decided xs ys
lists each [] [] = inl refl
lists each [] (y ∷ ys) = inr (λ e. absurd (cc))
lists each (x ∷ xs) [] = inr (λ e. absurd (cc))
lists {A} each (x ∷ xs) (y ∷ ys) = both (each x y) (lists each xs ys)
  where
    both : Decided x y → Decided xs ys → Decided (x ∷ xs) (y ∷ ys)
    both (inl a) (inl b) = inl (λ t. a t ∷ b t)
    both (inl a) (inr n) = inr (λ e. n (let tails : xs ≡ ys = cc in tails))
    both (inr n) other = inr (λ e. n (let heads : x ≡ y = cc in heads))

bytes : (a b : List ℕ) → Decided a b
bytes = lists numbers

stamps : (a b : Stamp) → Decided a b
stamps a b = by_code (λ (s : Stamp). (s.time, (s.client, s.verifier))) (λ c. record { time = c.0; client = c.1.0; verifier = c.1.1 }) (λ s. refl) a b
    (pairs numbers (pairs numbers bytes) (a.time, (a.client, a.verifier)) (b.time, (b.client, b.verifier)))

tags : (a b : Tag) → Decided a b
tags a b = by_code (λ (x : Tag). (x.op, x.phase)) (λ c. record { op = c.0; phase = c.1 }) (λ x. refl) a b (pairs numbers numbers (a.op, a.phase) (b.op, b.phase))

versions : (a b : Version) → Decided a b
versions a b = by_code (λ (v : Version). (v.stamp, (v.sum, v.fragment))) (λ c. record { stamp = c.0; sum = c.1.0; fragment = c.1.1 }) (λ v. refl) a b
    (pairs stamps (pairs (lists bytes) bytes) (a.stamp, (a.sum, a.fragment)) (b.stamp, (b.sum, b.fragment)))

-- ---- a choice is coded by lists of what each way carries

abbrev bound_code : Bound → List Stamp × List Stamp
bound_code Every = ([], [])
bound_code (AtMost s) = (s ∷ [], [])
bound_code (Below s) = ([], s ∷ [])

abbrev bound_back : List Stamp × List Stamp → Bound
bound_back ([], []) = Every
bound_back (s ∷ ss, ys) = AtMost s
bound_back ([], s ∷ ss) = Below s

bound_same : (b : Bound) → bound_back (bound_code b) ≡ b
bound_same Every = refl
bound_same (AtMost s) = refl
bound_same (Below s) = refl

bounds : (a b : Bound) → Decided a b
bounds a b = by_code bound_code bound_back bound_same a b (pairs (lists stamps) (lists stamps) (bound_code a) (bound_code b))

abbrev request_code : Request → List Bound × List Version
request_code Time = ([], [])
request_code (Read b) = (b ∷ [], [])
request_code (Write v) = ([], v ∷ [])

abbrev request_back : List Bound × List Version → Request
request_back ([], []) = Time
request_back (b ∷ bs, vs) = Read b
request_back ([], v ∷ vs) = Write v

request_same : (r : Request) → request_back (request_code r) ≡ r
request_same Time = refl
request_same (Read b) = refl
request_same (Write v) = refl

requests : (a b : Request) → Decided a b
requests a b = by_code request_code request_back request_same a b (pairs (lists bounds) (lists versions) (request_code a) (request_code b))

asks : (a b : Ask) → Decided a b
asks a b = by_code (λ (x : Ask). (x.block, x.request)) (λ c. record { block = c.0; request = c.1 }) (λ x. refl) a b (pairs numbers requests (a.block, a.request) (b.block, b.request))

abbrev reason_code : Reason → ℕ
reason_code BadBlock = 0
reason_code BadLength = 1
reason_code TimeZero = 2
reason_code BadVerifier = 3
reason_code BadDigest = 4

abbrev reason_back : ℕ → Reason
reason_back zero = BadBlock
reason_back (suc zero) = BadLength
reason_back (suc (suc zero)) = TimeZero
reason_back (suc (suc (suc zero))) = BadVerifier
reason_back (suc (suc (suc (suc k)))) = BadDigest

reason_same : (r : Reason) → reason_back (reason_code r) ≡ r
reason_same BadBlock = refl
reason_same BadLength = refl
reason_same TimeZero = refl
reason_same BadVerifier = refl
reason_same BadDigest = refl

reasons : (a b : Reason) → Decided a b
reasons a b = by_code reason_code reason_back reason_same a b (numbers (reason_code a) (reason_code b))

-- a reply that carries nothing has a number
abbrev ReplyCode : Type 0
ReplyCode = ℕ × (List ℕ × (List Version × List Reason))

abbrev reply_code : Reply → ReplyCode
reply_code (TimeIs time) = (0, (time ∷ [], ([], [])))
reply_code (Found v) = (0, ([], (v ∷ [], [])))
reply_code Nothing = (1, ([], ([], [])))
reply_code Ack = (0, ([], ([], [])))
reply_code (Refused reason) = (0, ([], ([], reason ∷ [])))

abbrev reply_back : ReplyCode → Reply
reply_back (suc k, rest) = Nothing
reply_back (zero, (time ∷ ts, rest)) = TimeIs time
reply_back (zero, ([], (v ∷ vs, rs))) = Found v
reply_back (zero, ([], ([], r ∷ rs))) = Refused r
reply_back (zero, ([], ([], []))) = Ack

reply_same : (r : Reply) → reply_back (reply_code r) ≡ r
reply_same (TimeIs time) = refl
reply_same (Found v) = refl
reply_same Nothing = refl
reply_same Ack = refl
reply_same (Refused reason) = refl

replies : (a b : Reply) → Decided a b
replies a b = by_code reply_code reply_back reply_same a b (pairs numbers (pairs bytes (pairs (lists versions) (lists reasons))) (reply_code a) (reply_code b))

bodies : (a b : Body) → Decided a b
bodies (Asks a) (Asks b) = elim (asks a b) [ inl e ↦ inl (ap (λ (x : Ask). Asks x) e) | inr n ↦ inr (λ e. n (let same : a ≡ b = cc in same)) ]
bodies (Answers a) (Answers b) = elim (replies a b) [ inl e ↦ inl (ap (λ (x : Reply). Answers x) e) | inr n ↦ inr (λ e. n (let same : a ≡ b = cc in same)) ]
bodies (Asks a) (Answers b) = inr (λ e. absurd (cc))
bodies (Answers a) (Asks b) = inr (λ e. absurd (cc))

pub messages : (a b : Message) → Decided a b
messages a b = by_code (λ (m : Message). (m.client, (m.node, (m.tag, m.body)))) (λ c. record { client = c.0; node = c.1.0; tag = c.1.1.0; body = c.1.1.1 }) (λ m. refl) a b
    (pairs numbers (pairs numbers (pairs tags bodies)) (a.client, (a.node, (a.tag, a.body))) (b.client, (b.node, (b.tag, b.body))))
