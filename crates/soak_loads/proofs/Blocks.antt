-- The blocks of a client.
use Rattle.std.proofs.Common.{◌≡◌, ℕ, ◌+◌, ◌*◌, ◌/◌, ◌%◌, ◌<◌, ◌≤◌, Bool, true, false, List, [], ◌∷◌, map, refl, sym, ap, ◌∙◌, arith}
use Rattle.std.specs.Prelude.{◌==◌, if◌then◌else◌}
use Rattle.std.specs.List.{AllByRecursion, range_with_len}
use Rattle.std.proofs.Math.Nat.{mul-div-le, le-div_iff_mul-le, mul_comm, mod-lt, mod-mod, add-mul-mod_self_left}
use Rattle.std.proofs.lemmas.Bool.Decides.{nat_tests}
use Rattle.std.proofs.lemmas.Nat.{mul-add-lt}
use Rattle.wire_forms.specs.declared.op.Op.TheVariants.{Read, Write}
use Rattle.soak_loads.specs.MadePlans.{generator, word_at, value_from, block_of, op_of, job_of}
use Rattle.soak_loads.specs.Owners.{on_block, IsOwned, BlocksHaveOneClient}

-- each client has a block
pub share_some : (clients : ℕ) → 1 ≤ clients → clients ≤ 16 → 1 ≤ 16 / clients
share_some clients some few = (le-div_iff_mul-le {k = clients} {x = 1} {y = 16} (omega arith)).1 (omega arith)

pub block_below : (clients place word : ℕ) → place < clients → clients ≤ 16 → place + clients * (word % (16 / clients)) < 16
block_below clients place word below few =
    let q = word % (16 / clients) in
    let some = share_some clients (omega arith) few in
    let within : q * clients + place < clients * (16 / clients) = mul-add-lt q clients place (16 / clients) (mod-lt word (omega arith)) below in
    let whole = mul-div-le 16 clients in
    let turned = mul_comm clients q in
    omega arith

pub block_there : (clients j word : ℕ) → 1 ≤ clients → clients ≤ 16 → block_of clients j word < 16
block_there clients j word some few = block_below clients (j % clients) word (mod-lt j (omega arith)) few

-- a block's number says whose it is
owned : (clients j word : ℕ) → 1 ≤ clients → IsOwned clients (job_of clients j word)
owned clients j word some = by (word / 4 % 2 == 1)
  where
    place : ℕ
    place = j % clients

    turn : block_of clients j word % clients ≡ place
    turn = add-mul-mod_self_left place clients (word % (16 / clients)) ∙ mod-mod j clients

    by : (b : Bool) → 1 + place ≡ 1 + on_block (if b then Write (block_of clients j word) (value_from (word / 8)) else Read (block_of clients j word)) % clients
    by true = ap (λ (k : ℕ). 1 + k) (sym turn)
    by false = ap (λ (k : ℕ). 1 + k) (sym turn)

pub one_client : BlocksHaveOneClient
one_client number clients ops some = all (range_with_len 0 ops)
  where
    all : (js : List ℕ) → AllByRecursion (IsOwned clients) (map (λ j. job_of clients j (word_at (generator number) j)) js)
    all [] = tt
    all (j ∷ js) = (owned clients j (word_at (generator number) j) some, all js)

-- what an operation is, by the third bit of its word
pub written : (clients j word : ℕ) → word / 4 % 2 ≡ 1 → op_of clients j word ≡ Write (block_of clients j word) (value_from (word / 8))
written clients j word e = let t : (word / 4 % 2 == 1) ≡ true = grind (arith, nat_tests) in rw t refl

pub read : (clients j word : ℕ) → (word / 4 % 2 ≡ 1 → ⊥) → op_of clients j word ≡ Read (block_of clients j word)
read clients j word e = let t : (word / 4 % 2 == 1) ≡ false = grind (arith, nat_tests) in rw t refl
