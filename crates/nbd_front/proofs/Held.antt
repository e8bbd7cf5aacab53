-- What the nodes of a server hold of a block.
use Rattle.std.proofs.Common.{◌≡◌, ℕ, ◌<◌, ◌∙◌, Bool, true, false, cond, eqb, List, refl, sym, ap, Result, Ok, Err, IfOk}
use Rattle.quorum_rules.specs.Limits.{Numbers}
use Rattle.std.proofs.lemmas.Bool.{eqb-true}
use Rattle.protocol.specs.Messages.{Stamp, Version}
use Rattle.protocol.specs.Setting.{zeros, verifier_of, first_stamp, Sound}
use Rattle.protocol.specs.Instance.{setting}
use Rattle.node_device.specs.Held.{Held, held_at, the_client, stamp_of, version_of}
use Rattle.nbd_front.specs.Arrays.{IsInOrder}
use Rattle.nbd_front.specs.Servers.{SeenServer, block_of}
use Rattle.nbd_front.proofs.Devices.{block_whole}

-- the stamp of a block is sound with its value
verifier_at : (never : Bool) (first latest : Stamp) (verifier : List ℕ) → (never ≡ true → first.verifier ≡ verifier) → latest.verifier ≡ verifier → (cond never first latest).verifier ≡ verifier
verifier_at true first latest verifier h e = h refl
verifier_at false first latest verifier h e = e

stamp_sound : (c : Numbers) (time : ℕ) (value : List ℕ) → (time ≡ 0 → value ≡ zeros (setting c)) → Sound (setting c) (stamp_of c (record { time = time; value = value })) value
stamp_sound c time value none =
    verifier_at (eqb time 0) (first_stamp (setting c)) (record { time = time; client = the_client; verifier = verifier_of (setting c) value }) (verifier_of (setting c) value)
    (λ never. ap (verifier_of (setting c)) (sym (none (eqb-true time 0 never)))) refl

module _ (s : SeenServer) (o : IsInOrder s.device) (node block : ℕ) (there : block < s.device.config.blocks) where
  abbrev here : Held
  here = held_at s.device.config s.device.held block

  -- the device's block is the array's
  same : here ≡ block_of s block
  same = ap (λ v. record { time = here.time; value = v }) (block_whole s.device o block there _ _ refl refl)

  pub held_zeros : (block_of s block).time ≡ 0 → (block_of s block).value ≡ zeros (setting s.device.config)
  held_zeros never = sym (ap (λ (h : Held). h.value) same) ∙ o.unwritten block there never

  pub held_is : {E : Type 0} (r : Result Version E) → IfOk r (λ w. w ≡ version_of s.device.config node here) → IfOk r (λ w. w ≡ version_of s.device.config node (block_of s block))
  held_is (Ok w) found = found ∙ ap (version_of s.device.config node) same
  held_is (Err e) found = found

  pub held_sound : {E : Type 0} (r : Result Version E) → IfOk r (λ w. w ≡ version_of s.device.config node here) → IfOk r (λ w. Sound (setting s.device.config) w.stamp (block_of s block).value)
  held_sound (Ok w) found = rw (found, same) (stamp_sound s.device.config (block_of s block).time (block_of s block).value held_zeros)
  held_sound (Err e) found = found
