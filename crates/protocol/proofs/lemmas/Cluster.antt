-- The setting of a cluster is valid: the real code and the real digest keep the laws.
use Rattle.std.proofs.Common.{◌≡◌, ℕ, ◌<◌, Bool, List, [], ◌∷◌, length, get_or, map, refl, sym, ap, subst, ◌∙◌, inl, inr, arith}
use Rattle.std.specs.Prelude.{slice_index_or}
use Rattle.std.specs.List.{Contains, AllByRecursion}
use Rattle.std.proofs.lemmas.Bool.{cases_lt}
use Rattle.std.proofs.lemmas.List.{length-map, get_or-map, get_or_default, get_or_past}
use Rattle.std.proofs.lemmas.List.Elements.{All-from_recursion, recursion_from_All}
use Rattle.std.proofs.lemmas.List.Kept.{AllPairs-cons}
use Rattle.sha2.proofs.Facts256.{length-sha256}
use Rattle.quorum_rules.specs.Limits.{Numbers}
use Rattle.gf_field.specs.Polynomials.{AreElements, AreDistinct}
use Rattle.gf_field.specs.Fragments.{AreParts, string_len, string, fragments_of, decoded}
use Rattle.gf_field.proofs.lemmas.Blocks.{length-fragments_of, length-fragment, fragment_bytes, decoded_is_block, decoded-fragments_of}
use Rattle.cross_sum.specs.Digest.{digest}
use Rattle.stamp_order.specs.declared.Stamp.{Stamp}
use Rattle.protocol.specs.Messages.{IsBytes, Version, Ask, Reply, Tag}
use Rattle.protocol.specs.Nodes.{reply, after, accepts, pruned}
use Rattle.protocol.specs.Operations.{Task, Stage, decide, mail}
use Rattle.protocol.specs.Operations.Stage.{Times, Versions, Storing}
use Rattle.protocol.specs.Seen.{SeenTask, hearing}
use Rattle.protocol.specs.Setting.{Setting, IsValid, IsAscending}
use Rattle.protocol.specs.Instance.{setting, setting_of, part_numbers, part_strings, IsCluster}
use Rattle.protocol.proofs.lemmas.Firsts.{shape_of_valid}
use Rattle.lists.proofs.lemmas.Members.{Contains-head, Contains-rest}

all_map : {X Y : Type 0} (P : Y → Type 0) (f : X → Y) (xs : List X) → ((x : X) → Contains xs x → P (f x)) → AllByRecursion P (map f xs)
all_map P f [] h = tt
all_map P f (x ∷ xs) h = (h x (Contains-head x xs), all_map P f xs (λ y k. h y (Contains-rest y x xs k)))

distinct : (parts : List (ℕ × List ℕ)) → IsAscending parts → AreDistinct (part_numbers parts)
distinct [] h = λ i j d l k. absurd (omega (arith, k))
distinct (p ∷ ps) h =
    AllPairs-cons (λ x y. x ≡ y → ⊥) p.0 (part_numbers ps)
    (All-from_recursion (λ x. p.0 ≡ x → ⊥) (part_numbers ps) (all_map (λ x. p.0 ≡ x → ⊥) (λ q. q.0) ps (λ q k e. let l = h.0 q k in omega (arith, l, e))))
    (distinct ps h.1)

elements : (xs : List ℕ) → IsBytes xs → AreElements xs
elements xs h = All-from_recursion (λ x. x < 256) xs h

bytes : (xs : List ℕ) → AreElements xs → IsBytes xs
bytes xs h = recursion_from_All (λ x. x < 256) xs h

part_at : (parts : List (ℕ × List ℕ)) (k : ℕ) → k < length parts → Contains parts (get_or parts k (0, []))
part_at parts k l = (k, l, get_or_default parts k (get_or parts k (0, [])) (0, []) l)

-- parts of different nodes, as many as make a block, each as long as a fragment
pub are_parts : (c : Numbers) (parts : List (ℕ × List ℕ)) → length parts ≡ c.m → IsAscending parts → ((q : ℕ × List ℕ) → Contains parts q → (q.0 < c.n) × (length q.1 ≡ string_len c.m c.size))
    → AreParts c.n c.m (string_len c.m c.size) (part_numbers parts) (part_strings parts)
are_parts c parts len up each = record {
  numbers_count = length-map parts _ ∙ len;
  count = length-map parts _ ∙ len;
  below = All-from_recursion (λ x. x < c.n) (part_numbers parts) (all_map (λ x. x < c.n) (λ q. q.0) parts (λ q k. (each q k).0));
  distinct = distinct parts up;
  lengths = All-from_recursion (λ x. length x ≡ string_len c.m c.size) (part_strings parts) (all_map (λ x. length x ≡ string_len c.m c.size) (λ q. q.1) parts (λ q k. (each q k).1));
}

module _ (c : Numbers) (nodes clients : ℕ → Bool) (good : IsCluster c nodes) where
  s : Setting
  s = setting_of c nodes clients

  fragment_length : (value : List ℕ) (i : ℕ) → length value ≡ c.size → i < c.n → length (slice_index_or (fragments_of c.n c.m value) i []) ≡ string_len c.m c.size
  fragment_length value i e l = length-fragment c.n c.m i value l ∙ ap (string_len c.m) e

  fragment_is_bytes : (value : List ℕ) (i : ℕ) → IsBytes value → IsBytes (slice_index_or (fragments_of c.n c.m value) i [])
  fragment_is_bytes value i h = elim (cases_lt i c.n) [
    | inl l ↦ bytes _ (fragment_bytes c.n c.m i value (shape_of_valid c good.config) (elements value h) l)
    | inr k ↦ subst IsBytes (sym (get_or_past (fragments_of c.n c.m value) i [] (let e = length-fragments_of c.n c.m value in omega (arith, e, k)))) tt
  ]

  digest_is : (value : List ℕ) (i : ℕ) → i < c.n → slice_index_or (map digest (fragments_of c.n c.m value)) i [] ≡ digest (slice_index_or (fragments_of c.n c.m value) i [])
  digest_is value i l = get_or-map digest (fragments_of c.n c.m value) i [] [] (let e = length-fragments_of c.n c.m value in omega (arith, e, l))

  decodes_to : (value : List ℕ) (parts : List (ℕ × List ℕ)) → (length value ≡ c.size) × IsBytes value → length parts ≡ c.m → IsAscending parts
      → ((q : ℕ × List ℕ) → Contains parts q → (q.0 < c.n) × (q.1 ≡ slice_index_or (fragments_of c.n c.m value) q.0 [])) → decoded c.m c.size (part_numbers parts) (part_strings parts) ≡ value
  decodes_to value parts h len up each =
      decoded-fragments_of c.n c.m c.size (part_numbers parts) (part_strings parts) value (shape_of_valid c good.config) (elements value h.1) h.0
      (length-map parts _ ∙ len) (length-map parts _ ∙ len)
      (All-from_recursion (λ x. x < c.n) (part_numbers parts) (all_map (λ x. x < c.n) (λ q. q.0) parts (λ q k. (each q k).0)))
      (distinct parts up)
      (λ k hk.
      let l : k < length parts = omega (arith, len, hk) in
      get_or-map (λ (q : ℕ × List ℕ). q.1) parts k (0, []) [] l
      ∙ (each _ (part_at parts k l)).1
      ∙ ap (λ (i : ℕ). string (fragments_of c.n c.m value) i) (sym (get_or-map (λ (q : ℕ × List ℕ). q.0) parts k (0, []) 0 l)))

  decoded_to_block : (parts : List (ℕ × List ℕ)) → length parts ≡ c.m → IsAscending parts → ((q : ℕ × List ℕ) → Contains parts q → (q.0 < c.n) × (length q.1 ≡ string_len c.m c.size) × IsBytes q.1)
      → (length (decoded c.m c.size (part_numbers parts) (part_strings parts)) ≡ c.size) × IsBytes (decoded c.m c.size (part_numbers parts) (part_strings parts))
  decoded_to_block parts len up each =
      let are = are_parts c parts len up (λ q k. let e = each q k in (e.0, e.1)) in
      let r = decoded_is_block c.n c.m c.size (part_numbers parts) (part_strings parts) (shape_of_valid c good.config) are
      (All-from_recursion AreElements (part_strings parts) (all_map AreElements (λ q. q.1) parts (λ q k. elements q.1 (each q k).2))) in
      (r.0, bytes _ r.1)

  pub cluster_valid : IsValid (setting_of c nodes clients)
  cluster_valid = record {
    liars_few = good.config.liars;
    quorum_low = good.config.low;
    quorum_high = good.config.high;
    shares_some = good.config.shares.0;
    shares_few = good.config.shares.1;
    liars = good.few;
    length-digest = length-sha256;
    length-sum = λ value h. length-map (fragments_of c.n c.m value) digest ∙ length-fragments_of c.n c.m value;
    digests = λ value i h l. digest_is value i l;
    length-fragment = λ value i h l. fragment_length value i h.0 l;
    bytes-fragment = λ value i h. fragment_is_bytes value i h.1;
    decodes = λ value parts h len up each. decodes_to value parts (h.0, h.1) len up each;
    decoded-block = λ parts len up each. decoded_to_block parts len up (λ q k. let e = each q k in (e.0, e.1.0, e.1.1));
  }

-- what a single node or client does hangs on no liar
module _ (c : Numbers) (nodes clients : ℕ → Bool) where
  pub alone_reply : (i : ℕ) (vs : List Version) (ask : Ask) → reply (setting_of c nodes clients) i vs ask ≡ reply (setting c) i vs ask
  alone_reply i vs ask = refl

  pub alone_after : (i : ℕ) (vs : List Version) (ask : Ask) → after (setting_of c nodes clients) i vs ask ≡ after (setting c) i vs ask
  alone_after i vs ask = refl

  pub alone_accepts : (i : ℕ) (vs : List Version) (ask : Ask) → accepts (setting_of c nodes clients) i vs ask ≡ accepts (setting c) i vs ask
  alone_accepts i vs ask = refl

  pub alone_pruned : (stamp : Stamp) (vs : List Version) → pruned (setting_of c nodes clients) stamp vs ≡ pruned (setting c) stamp vs
  alone_pruned stamp vs = refl

  pub alone_decides : (client : ℕ) (task : Task) (stage : Stage) → decide (setting_of c nodes clients) client task stage ≡ decide (setting c) client task stage
  alone_decides client task Times = refl
  alone_decides client task (Versions bound) = refl
  alone_decides client task (Storing stamp value) = refl

  pub alone_mail : (client : ℕ) (task : Task) → mail (setting_of c nodes clients) client task ≡ mail (setting c) client task
  alone_mail client task = refl

  pub alone_hears : (client : ℕ) (t : SeenTask) (node : ℕ) (tag : Tag) (told : Reply) → hearing (setting_of c nodes clients) client t node tag told ≡ hearing (setting c) client t node tag told
  alone_hears client t node tag told = refl
