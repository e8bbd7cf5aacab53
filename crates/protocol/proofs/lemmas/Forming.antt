-- What the code sends is well formed, and the digests of a well formed sum can be told from their string.
use Rattle.std.proofs.Common.{◌≡◌, ℕ, zero, suc, ◌+◌, ◌-◌, ◌%◌, ◌<◌, Bool, true, false, cond, eqb, List, [], ◌∷◌, length, replicate, get_or, Option, refl, sym, ◌∙◌, ap, arith}
use Rattle.std.specs.declared.option.Option.TheVariants.{None, Some}
use Rattle.std.specs.List.{AllByRecursion}
use Rattle.std.proofs.lemmas.List.{length-replicate}
use Rattle.protocol.specs.Count.{collect, one_more}
use Rattle.std.proofs.lemmas.Bool.Decides.{nat_tests}
use Rattle.stamp_order.specs.Stamps.{has}
use Rattle.wire_forms.specs.declared.Request.TheVariants.{Time, Read as AskRead, Write as AskWrite}
use Rattle.wire_forms.specs.declared.Reply.TheVariants.{Found, Nothing}
use Rattle.wire_forms.specs.declared.rule.Rule.TheVariants.{Silent, Old, Top, Bad}
use Rattle.protocol.specs.Lines.{Rule, flipped, version_of, top_stamp, full_block, false_reply}
use Rattle.protocol.specs.Laws.{FalseIsFormed}
use Rattle.protocol.specs.Messages.{flat, IsBytes, AreDigests, IsFormedRequest, IsFormedReply, Request, Reply}
use Rattle.protocol.specs.Setting.{Setting, IsValid, IsBlock, zeros}
use Rattle.protocol.specs.Operations.{Work, Stage, request_of, first_work}
use Rattle.protocol.specs.Operations.Work.{Reads, Writes}
use Rattle.protocol.specs.Operations.Stage.{Times, Versions, Storing}
use Rattle.protocol.proofs.Invariant.{IsStage}
use Rattle.lists.proofs.lemmas.Members.{append_inj}

all_at : {X : Type 0} (P : X → Type 0) (d : X) (xs : List X) → ((i : ℕ) → i < length xs → P (get_or xs i d)) → AllByRecursion P xs
all_at P d [] h = tt
all_at P d (x ∷ xs) h = (h 0 (omega arith), all_at P d xs (λ i l. h (suc i) (omega (arith, l))))

all_one_more : {X : Type 0} (P : X → Type 0) (xs : List X) (o : Option X) → AllByRecursion P xs → ((x : X) → o ≡ Some x → P x) → AllByRecursion P (one_more xs o)
all_one_more P xs None h k = h
all_one_more P [] (Some x) h k = (k x refl, tt)
all_one_more P (y ∷ ys) (Some x) h k = (h.0, all_one_more P ys (Some x) h.1 k)

pub all_collect : {X : Type 0} (P : X → Type 0) (n : ℕ) (f : ℕ → Option X) → ((i : ℕ) (x : X) → f i ≡ Some x → P x) → AllByRecursion P (collect n f)
all_collect P zero f h = tt
all_collect P (suc k) f h = all_one_more P (collect k f) (f k) (all_collect P k f h) (h k)

pub all_replicate : (n x : ℕ) → x < 256 → IsBytes (replicate n x)
all_replicate zero x h = tt
all_replicate (suc n) x h = (h, all_replicate n x h)

pub filled_block : (s : Setting) (x : ℕ) → x < 256 → IsBlock s (replicate s.size x)
filled_block s x h = (length-replicate s.size x, all_replicate s.size x h)

pub zeros_block : (s : Setting) → IsBlock s (zeros s)
zeros_block s = filled_block s 0 (omega arith)

module _ (s : Setting) (good : IsValid s) where
  pub sum_formed : (value : List ℕ) → IsBlock s value → AreDigests (s.sum_of value)
  sum_formed value h = all_at (λ d. length d ≡ 32) [] (s.sum_of value) (λ i l. let e = good.digests value i h (omega (arith, good.length-sum value h, l)) in ap length e ∙ good.length-digest (s.fragment_of value i))

  pub request_formed : (work : Work) (stage : Stage) → IsStage s work stage → (i : ℕ) → IsFormedRequest (request_of s stage i)
  request_formed work Times h i = tt
  request_formed work (Versions bound) h i = tt
  request_formed Reads (Storing stamp value) h i = (sum_formed value h.whole, good.bytes-fragment value i h.whole)
  request_formed (Writes w) (Storing stamp value) h i = (sum_formed value h.1.whole, good.bytes-fragment value i h.1.whole)

even_below : (x : ℕ) → x < 256 → x % 2 ≡ 0 → x + 1 < 256
even_below x h e = grind arith

flipped_bytes : (xs : List ℕ) → IsBytes xs → IsBytes (flipped xs)
flipped_bytes [] h = tt
flipped_bytes (x ∷ xs) h = (at (eqb (x % 2) 0) refl, h.1)
  where
    at : (b : Bool) → eqb (x % 2) 0 ≡ b → cond b (x + 1) (x - 1) < 256
    at true e = even_below x h.0 (grind (arith, nat_tests))
    at false e = let l = h.0 in omega (arith, l)

-- the reply is formed, if there is one
abbrev pub IsFormedWhere : Option Reply → Type 0
IsFormedWhere None = Unit {0}
IsFormedWhere (Some reply) = IsFormedReply reply

-- what a lying node answers by a rule
module _ (s : Setting) (good : IsValid s) where
  top_formed : (i : ℕ) (b : Bool) → IsFormedReply (cond b (Found (version_of s (top_stamp s i) (full_block s) i)) Nothing)
  top_formed i true = (sum_formed s good (full_block s) (filled_block s 255 (omega arith)), good.bytes-fragment (full_block s) i (filled_block s 255 (omega arith)))
  top_formed i false = tt

  pub false_formed : (rule : Rule) (i : ℕ) (request : Request) → IsFormedWhere (false_reply s rule i request)
  false_formed Silent i request = tt
  false_formed Old i Time = tt
  false_formed Old i (AskRead bound) = (sum_formed s good (zeros s) (zeros_block s), good.bytes-fragment (zeros s) i (zeros_block s))
  false_formed Old i (AskWrite v) = tt
  false_formed Top i Time = tt
  false_formed Top i (AskRead bound) = top_formed i (has bound (top_stamp s i))
  false_formed Top i (AskWrite v) = tt
  false_formed Bad i Time = tt
  false_formed Bad i (AskRead bound) = (sum_formed s good (zeros s) (zeros_block s), flipped_bytes (s.fragment_of (zeros s) i) (good.bytes-fragment (zeros s) i (zeros_block s)))
  false_formed Bad i (AskWrite v) = tt

  pub formed_reply : FalseIsFormed s
  formed_reply rule i request reply e = at (false_reply s rule i request) e (false_formed rule i request)
    where
      at : (o : Option Reply) → o ≡ Some reply → IsFormedWhere o → IsFormedReply reply
      at None e h = absurd (cc)
      at (Some told) e h = let q : told ≡ reply = cc in rw q at h

pub first_formed : (s : Setting) (work : Work) (i : ℕ) → IsFormedRequest (request_of s (first_work work) i)
first_formed s Reads i = tt
first_formed s (Writes value) i = tt

pub flat_inj : (xs ys : List (List ℕ)) → AreDigests xs → AreDigests ys → length xs ≡ length ys → flat xs ≡ flat ys → xs ≡ ys
flat_inj [] [] h k l e = refl
flat_inj [] (y ∷ ys) h k l e = absurd (omega (arith, l))
flat_inj (x ∷ xs) [] h k l e = absurd (omega (arith, l))
flat_inj (x ∷ xs) (y ∷ ys) h k l e =
    let q = append_inj x y (flat xs) (flat ys) (h.0 ∙ sym k.0) e in
    let rest = flat_inj xs ys h.1 k.1 (omega (arith, l)) q.1 in
    rw (q.0, rest) refl
