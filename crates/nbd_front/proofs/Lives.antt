-- Servers that have served one more request.
use Rattle.std.proofs.Common.{◌≡◌, ℕ, zero, suc, Bool, true, false, ◌++◌, ◌+◌, ◌*◌, ◌<◌, ◌≤◌, List, replicate, refl, ◌∙◌, ap, subst, arith, Result, Ok, Err, IfOk}
use Rattle.std.proofs.lemmas.List.{get_or-replicate, length-replicate, replicate-append-replicate}
use Rattle.std.proofs.Math.Nat.{mul-suc}
use Rattle.quorum_rules.specs.Limits.{Numbers, IsValid}
use Rattle.node_device.specs.Held.{Held, held_at, unwritten}
use Rattle.node_device.specs.Devices.{SeenDevice}
use Rattle.nbd_front.specs.Arrays.{array_of, once, time_at, HaveTimes, IsInOrder, IsWrittenUpTo, HasRead, HasWritten}
use Rattle.nbd_front.specs.Answers.{most_steps}
use Rattle.nbd_front.specs.Servers.{life_len, most_len, IsInLife, IsServer, HasRefreshed}
use Rattle.nbd_front.specs.Sessions.{most_requests}
use Rattle.node_device.proofs.lemmas.Holding.{zero_bytes}

-- the client may serve one more request, and the device is as it was
pub refreshed_order : (served : ℕ) (d e : SeenDevice) → IsInOrder d → HasRefreshed served d e → IsInOrder e
refreshed_order served d e o r = rw r.same (record { valid = o.valid; few = o.few; count = o.count; blocks = o.blocks; unwritten = o.unwritten })

pub refreshed_times : (served most : ℕ) (d e : SeenDevice) → IsWrittenUpTo most d → HasRefreshed served d e → IsWrittenUpTo most e
refreshed_times served most d e h r = rw r.same h

-- no block is written more than once by a request
few_more : (a b n : ℕ) (written : Bool) → b ≡ a + once written → a ≤ n → b ≤ n + 1
few_more a b n true e h = omega (arith, e, h)
few_more a b n false e h = omega (arith, e, h)

written_up_to : (wrote : ℕ → Bool) (d e : SeenDevice) (n : ℕ) → e.config ≡ d.config → HaveTimes wrote d e → IsWrittenUpTo n d → IsWrittenUpTo (n + 1) e
written_up_to wrote d e n same times h k l =
    let there : k < d.config.blocks = subst (λ (c : Numbers). k < c.blocks) same l in
    few_more (time_at d k) (time_at e k) n (wrote k) (times k there) (h k there)

-- one more request
pub served_more : (d e : SeenDevice) (served place more : ℕ) (array : List ℕ) (wrote : ℕ → Bool) → IsWrittenUpTo served d → IsInLife d served → served < life_len * (d.life + 1) → served < most_requests → place ≤ served * most_len → more ≤ most_len → HasWritten most_steps array wrote d e → IsServer e (served + 1) (place + more)
served_more d e served place more array wrote times life later few here long w =
    let same = w.life in
    let begun = life.begun in
    let steps = life.steps in
    let grown = w.steps in
    record {
      order = w.order;
      times = written_up_to wrote d e served w.config w.times times;
      life = rw same (record {
        begun = omega (arith, begun);
        few = omega (arith, later);
        steps = omega (arith, steps, grown);
      });
      few = omega (arith, few);
      near = omega (arith, here, long);
    }

-- ---- a device that was never written
pub fresh_array : (c : Numbers) (n : ℕ) → array_of (replicate n (unwritten c)) ≡ replicate (c.size * n) 0
fresh_array c zero = let none : 0 ≡ c.size * 0 = omega arith in ap (λ m. replicate m 0) none
fresh_array c (suc n) =
    let more : c.size + c.size * n ≡ c.size * suc n = omega (arith, mul-suc c.size n) in
    ap (λ z. replicate c.size 0 ++ z) (fresh_array c n)
    ∙ replicate-append-replicate c.size (c.size * n) 0
    ∙ ap (λ m. replicate m 0) more

module _ (c : Numbers) (valid : IsValid c) (few : c.blocks ≤ 65536) (d : SeenDevice) (is : d ≡ record { config = c; held = replicate c.blocks (unwritten c); life = 0; started = 0 }) where
  never : (k : ℕ) → k < c.blocks → held_at c (replicate c.blocks (unwritten c)) k ≡ unwritten c
  never k l = get_or-replicate c.blocks k (unwritten c) (unwritten c) l

  pub fresh_server : IsServer d 0 0
  fresh_server = rw is (record {
    order = record {
      valid = valid;
      few = few;
      count = length-replicate c.blocks (unwritten c);
      blocks = λ k l. rw (never k l) (length-replicate c.size 0, zero_bytes c.size);
      unwritten = λ k l none. rw (never k l) refl;
    };
    times = λ k l. (let t = ap (λ (h : Held). h.time) (never k l) in omega (arith, t));
    life = record { begun = omega arith; few = omega arith; steps = omega arith };
    few = omega arith;
    near = omega arith;
  })

  pub fresh_bytes : array_of d.held ≡ replicate (c.size * c.blocks) 0
  fresh_bytes = rw is (fresh_array c c.blocks)

-- a test has one answer
pub not_both : (b : Bool) → b ≡ true → b ≡ false → ⊥
not_both true h k = cc
not_both false h k = cc

-- what holds of an answer that is there
pub if_ok : {T E : Type 0} (P Q : T → Type 0) → ((x : T) → P x → Q x) → (r : Result T E) → IfOk r P → IfOk r Q
if_ok P Q f (Ok x) h = f x h
if_ok P Q f (Err e) h = h

-- reads, and then writes
pub then_written : (d e f : SeenDevice) (array : List ℕ → List ℕ) (wrote : Numbers → ℕ → Bool) → HasRead 65536 d e → HasWritten 131072 (array (array_of e.held)) (wrote e.config) e f → HasWritten most_steps (array (array_of d.held)) (wrote d.config) d f
then_written d e f array wrote r w =
    let held : array_of e.held ≡ array_of d.held = ap (λ (x : SeenDevice). array_of x.held) r.same in
    let config : e.config ≡ d.config = ap (λ (x : SeenDevice). x.config) r.same in
    let life : e.life ≡ d.life = ap (λ (x : SeenDevice). x.life) r.same in
    record {
      order = w.order;
      config = w.config ∙ config;
      life = w.life ∙ life;
      bytes = w.bytes ∙ ap array held;
      times = subst (λ (x : SeenDevice). HaveTimes (wrote x.config) x f) r.same w.times;
      steps = omega (arith, w.steps, r.steps);
    }
