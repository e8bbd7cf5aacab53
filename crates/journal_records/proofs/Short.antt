-- What liars send is short enough for a text.
use Rattle.std.proofs.Common.{◌≡◌, ℕ, zero, suc, ◌+◌, ◌-◌, ◌/◌, ◌^◌, ◌<◌, ◌≤◌, Bool, true, false, cond, ◌==◌, List, [], ◌∷◌, ◌++◌, length, map, Option, refl, sym, ◌∙◌, subst, ap, inl, inr, arith, length-append}
use Rattle.std.specs.declared.option.Option.TheVariants.{Some}
use Rattle.std.specs.List.{Contains, AllByRecursion, flat_map, filter_map, range_with_len}
use Rattle.std.proofs.Math.Nat.{mod-add-div', le-mul_of_pos_right}
use Rattle.std.proofs.lemmas.List.{length-replicate}
use Rattle.quorum_rules.specs.Limits.{Numbers}
use Rattle.stamp_order.specs.declared.Stamp.{Stamp}
use Rattle.stamp_order.specs.Stamps.{has}
use Rattle.wire_forms.specs.declared.Request.TheVariants.{Time, Read as AskRead, Write as AskWrite}
use Rattle.wire_forms.specs.declared.Reply.TheVariants.{TimeIs, Found, Nothing, Ack}
use Rattle.wire_forms.specs.declared.rule.Rule.TheVariants.{Silent, Old, Top, Bad}
use Rattle.gf_field.specs.Fragments.{string_len}
use Rattle.message_texts.specs.Texts.{HasLimits, HasShort}
use Rattle.wire_forms.specs.declared.Body.TheVariants.{Answer as Answers}
use Rattle.protocol.specs.Messages.{Message, Request, Reply, Version, IsBytes}
use Rattle.protocol.specs.Setting.{Setting, IsValid, IsBlock, zeros, first_stamp, verifier_of}
use Rattle.protocol.specs.Nodes.{first_version}
use Rattle.protocol.specs.Count.{collect}
use Rattle.protocol.specs.Lines.{Rule, false_reply, sound_ask, mix_ask, mixed, version_of, full_block, top_stamp, flipped}
use Rattle.protocol.specs.Instance.{setting}
use Rattle.event_lines.specs.Messages.{is_ask}
use Rattle.event_lines.specs.Lines.{IsValue}
use Rattle.text_lines.specs.Fields as text
use Rattle.plan_words.specs.declared.fault.Fault.{Fault}
use Rattle.plan_words.specs.declared.fault.Fault.TheVariants.{LiarNode, LiarSound, LiarMix, LiarFlood, CrashNode, CrashClient, Lose, Hold}
use Rattle.plan_words.specs.Plans.{IsFault}
use Rattle.journals.specs.declared.desk.Way.{Way}
use Rattle.journals.specs.declared.desk.DeskEntry.{DeskEntry}
use Rattle.journals.specs.declared.desk.DeskAct.{DeskAct}
use Rattle.journals.specs.declared.desk.DeskAct.TheVariants.{Start, Crash, Call}
use Rattle.plan_followed.specs.Asked.{messages_by, messages}
use Rattle.plan_followed.specs.Clients.{asked, all_asked}
use Rattle.lists.proofs.lemmas.Members.{Contains-none, Contains-cons_cases}
use Rattle.protocol.proofs.lemmas.Strings.{all_bytes}
use Rattle.protocol.proofs.lemmas.Forming.{all_replicate}

-- ---- lengths

pub share_few : (m size : ℕ) → 1 ≤ m → size ≤ 16384 → string_len m size ≤ 16384
share_few m size some small =
    let parts = mod-add-div' size m in
    let most = le-mul_of_pos_right (size / m) some in
    omega (arith, parts, most, small)

length_collect : {A : Type 0} (n : ℕ) (f : ℕ → A) → length (collect n (λ i. Some (f i))) ≡ n
length_collect zero f = refl
length_collect (suc n) f = length-append (collect n (λ i. Some (f i))) (f n ∷ []) ∙ (let r = length_collect n f in omega (arith, r))

some_short : (x reply : Reply) → Some x ≡ Some reply → HasLimits (Answers x) → HasLimits (Answers reply)
some_short x reply e h = let same : x ≡ reply = cc in subst (λ (r : Reply). HasLimits (Answers r)) same h

module _ (s : Setting) (good : IsValid s) (few : s.n ≤ 16) (short : s.share ≤ 16384) where
  version_short : (stamp : Stamp) (value : List ℕ) (i : ℕ) → IsBlock s value → i < s.n → HasShort (version_of s stamp value i)
  version_short stamp value i block low = (
    (let l = good.length-sum value block in omega (arith, l, few)),
    (let l = good.length-fragment value i block low in omega (arith, l, short)),
  )

  mixed_short : (b : Bool) (value other : List ℕ) (i : ℕ) → IsBlock s value → IsBlock s other → i < s.n → length (cond b (s.fragment_of value i) (s.fragment_of other i)) ≤ 16384
  mixed_short true value other i block second low = let l = good.length-fragment value i block low in omega (arith, l, short)
  mixed_short false value other i block second low = let l = good.length-fragment other i second low in omega (arith, l, short)

  sound_short : (c i block time : ℕ) (value : List ℕ) → IsBlock s value → i < s.n → HasLimits (sound_ask s c i block time value).body × (is_ask (sound_ask s c i block time value).body ≡ true)
  sound_short c i block time value is low = (version_short (record { time = time; client = c; verifier = verifier_of s value }) value i is low, refl)

  mix_short : (c i block time : ℕ) (value other : List ℕ) → IsBlock s value → IsBlock s other → i < s.n → HasLimits (mix_ask s c i block time value other).body × (is_ask (mix_ask s c i block time value other).body ≡ true)
  mix_short c i block time value other is also low = (
    ((let l = length_collect s.n (λ k. s.digest (mixed s value other k)) in omega (arith, l, few)), mixed_short _ value other i is also low),
    refl,
  )

  zeros_block : IsBlock s (zeros s)
  zeros_block = (length-replicate s.size 0, all_replicate s.size 0 (omega arith))

  full_is : IsBlock s (full_block s)
  full_is = (length-replicate s.size 255, all_replicate s.size 255 (omega arith))

  flipped_length : (xs : List ℕ) → length (flipped xs) ≡ length xs
  flipped_length [] = refl
  flipped_length (x ∷ xs) = refl

  found_short : (b : Bool) (v : Version) → HasShort v → HasLimits (Answers (cond b (Found v) Nothing))
  found_short true v h = h
  found_short false v h = tt

  -- what a lying node answers is short
  pub reply_short : (rule : Rule) (i : ℕ) (request : Request) (reply : Reply) → i < s.n → false_reply s rule i request ≡ Some reply → HasLimits (Answers reply)
  reply_short Silent i request reply low e = absurd cc
  reply_short Old i Time reply low e = some_short (TimeIs 0) reply e tt
  reply_short Old i (AskRead bound) reply low e = some_short (Found (first_version s i)) reply e (version_short (first_stamp s) (zeros s) i zeros_block low)
  reply_short Old i (AskWrite v) reply low e = some_short Ack reply e tt
  reply_short Top i Time reply low e = some_short (TimeIs (2 ^ 64 - 1)) reply e tt
  reply_short Top i (AskRead bound) reply low e =
      some_short (cond (has bound (top_stamp s i)) (Found (version_of s (top_stamp s i) (full_block s) i)) Nothing) reply e
      (found_short (has bound (top_stamp s i)) (version_of s (top_stamp s i) (full_block s) i) (version_short (top_stamp s i) (full_block s) i full_is low))
  reply_short Top i (AskWrite v) reply low e = some_short Ack reply e tt
  reply_short Bad i Time reply low e = some_short (TimeIs 0) reply e tt
  reply_short Bad i (AskRead bound) reply low e =
      let first = version_short (first_stamp s) (zeros s) i zeros_block low in
      some_short (Found (record { stamp = (first_version s i).stamp; sum = (first_version s i).sum; fragment = flipped (first_version s i).fragment })) reply e
      (first.0, (let l = flipped_length (s.fragment_of (zeros s) i) in let m = first.1 in omega (arith, l, m)))
  reply_short Bad i (AskWrite v) reply low e = some_short Ack reply e tt

  -- ---- what lying clients send

  map_range : (P : Message → Type 0) (f : ℕ → Message) (a count : ℕ) → ((i : ℕ) → i < a + count → P (f i)) → AllByRecursion P (map f (range_with_len a count))
  map_range P f a zero h = tt
  map_range P f a (suc count) h = (h a (omega arith), map_range P f (a + 1) count (λ i l. h i (omega (arith, l))))

  all_map : (P : Message → Type 0) (b : Bool) (ms : List Message) → AllByRecursion P ms → AllByRecursion P (cond b ms [])
  all_map P true ms h = h
  all_map P false ms h = tt

all_append : (P : Message → Type 0) (xs ys : List Message) → AllByRecursion P xs → AllByRecursion P ys → AllByRecursion P (xs ++ ys)
all_append P [] ys h k = k
all_append P (x ∷ xs) ys h k = (h.0, all_append P xs ys h.1 k)

all_flat : {X : Type 0} (P : Message → Type 0) (Q : X → Type 0) (f : X → List Message) (xs : List X) → AllByRecursion Q xs → ((x : X) → Q x → AllByRecursion P (f x)) → AllByRecursion P (flat_map f xs)
all_flat P Q f [] h g = tt
all_flat P Q f (x ∷ xs) h g = all_append P (f x) (flat_map f xs) (g x h.0) (all_flat P Q f xs h.1 g)

all_ranges : (P : Message → Type 0) (f : ℕ → List Message) (a count : ℕ) → ((i : ℕ) → AllByRecursion P (f i)) → AllByRecursion P (flat_map f (range_with_len a count))
all_ranges P f a zero h = tt
all_ranges P f a (suc count) h = all_append P (f a) (flat_map f (range_with_len (a + 1) count)) (h a) (all_ranges P f (a + 1) count h)

-- a message that is short, and an ask
abbrev pub IsShortAsk : Message → Type 0
IsShortAsk m = HasLimits m.body × (is_ask m.body ≡ true)

bytes_of : (xs : List ℕ) → text.IsBytes xs → IsBytes xs
unfolding text.IsBytes
bytes_of xs h = all_bytes xs h

is_block : (c : Numbers) (value : List ℕ) → IsValue c value → IsBlock (setting c) value
is_block c value h = (h.whole, bytes_of value h.bytes)

module _ (c : Numbers) (good : IsValid (setting c)) (few : c.n ≤ 16) (short : string_len c.m c.size ≤ 16384) (client : ℕ) where
  rule_short : (fault : Fault) → IsFault c fault → AllByRecursion IsShortAsk (messages_by c client fault)
  rule_short (LiarNode node rule) h = tt
  rule_short (LiarSound k block time value count) h =
      all_map (setting c) good few short IsShortAsk (client == k) _
      (map_range (setting c) good few short IsShortAsk (λ i. sound_ask (setting c) client i block time value) 0 count
      (λ i l. sound_short (setting c) good few short client i block time value (is_block c value h.3) (let m = h.4 in omega (arith, l, m))))
  rule_short (LiarMix k block time value other count) h =
      all_map (setting c) good few short IsShortAsk (client == k) _
      (map_range (setting c) good few short IsShortAsk (λ i. mix_ask (setting c) client i block time value other) 0 count
      (λ i l. mix_short (setting c) good few short client i block time value other (is_block c value h.3) (is_block c other h.4) (let m = h.5 in omega (arith, l, m))))
  rule_short (LiarFlood k block time value other count) h =
      all_map (setting c) good few short IsShortAsk (client == k) _
      (all_ranges IsShortAsk (λ z. map (λ i. mix_ask (setting c) client i block (time - z) value other) (range_with_len 0 c.n)) 0 count
      (λ z. map_range (setting c) good few short IsShortAsk (λ i. mix_ask (setting c) client i block (time - z) value other) 0 c.n
      (λ i l. mix_short (setting c) good few short client i block (time - z) value other (is_block c value h.3) (is_block c other h.4) (omega (arith, l)))))
  rule_short (CrashNode node count) h = tt
  rule_short (CrashClient k count) h = tt
  rule_short (Lose k node count) h = tt
  rule_short (Hold k node count) h = tt

  pub messages_short : (rules : List Fault) → AllByRecursion (IsFault c) rules → AllByRecursion IsShortAsk (messages c rules client)
  messages_short rules h = all_flat IsShortAsk (IsFault c) (messages_by c client) rules h rule_short

-- who is asked in a journal
pub asked_there : (P : Message → Type 0) (es : List DeskEntry) → AllByRecursion P (all_asked es) → (n : ℕ) (way : Way) (ask : Message) (reply : Option Message)
    → Contains es (record { number = n; act = Call way ask reply }) → P ask
asked_there P [] h n way ask reply there = absurd (Contains-none _ there)
asked_there P (e ∷ es) h n way ask reply there = elim (Contains-cons_cases (record { number = n; act = Call way ask reply }) e es there) [
  | inl same ↦ at e.act (ap (λ (x : DeskEntry). x.act) (sym same)) h
  | inr k ↦ asked_there P es (later e.act h) n way ask reply k
]
  where
    at : (act : DeskAct) → act ≡ Call way ask reply → AllByRecursion P (filter_map (λ x. asked x.act) (record { number = e.number; act = act } ∷ es)) → P ask
    at act same all = (let here : AllByRecursion P (ask ∷ all_asked es) = rw same at all in here.0)

    later : (act : DeskAct) → AllByRecursion P (filter_map (λ x. asked x.act) (record { number = e.number; act = act } ∷ es)) → AllByRecursion P (all_asked es)
    later (Start op) all = all
    later Crash all = all
    later (Call w a r) all = all.1
