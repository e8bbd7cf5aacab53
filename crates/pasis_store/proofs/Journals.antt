-- What is done with a store whose disks are files.
use Rattle.std.proofs.Common.{◌≡◌, refl}
use Rattle.file_disk.specs.OnFile.{OnFile}
use Rattle.store_device.specs.Stores.{SeenStore}
use Rattle.store_device.specs.Seating.{forgetting}
use Rattle.store_device.proofs.lemmas.Steps.{none_tended, same_seats as same_on, seats_tended, stamps_forgotten as forgotten_on, tended_then}
use Rattle.pasis_store.specs.Upkeep.{IsReseated, IsTended}

module _ {F : Type 0} where
  pub not_tended : (store : SeenStore (OnFile F)) → IsTended store store
  not_tended store = none_tended _ _ _ _ _ store store refl

  pub and_tended : (old mid new : SeenStore (OnFile F)) → IsTended old mid → IsTended mid new → IsTended old new
  and_tended old mid new first then = tended_then _ _ _ _ _ old mid new first then

  pub and_reseated : (old mid new : SeenStore (OnFile F)) → IsTended old mid → IsReseated mid new → IsTended old new
  and_reseated old mid new first then = and_tended old mid new first (seats_tended _ _ _ _ _ mid new then)

  pub same_seats : (store : SeenStore (OnFile F)) → IsReseated store store
  same_seats store = same_on _ _ store store refl

  pub stamps_forgotten : (old new : SeenStore (OnFile F)) → new ≡ forgetting old → IsTended old new
  stamps_forgotten old new is = seats_tended _ _ _ _ _ old new (forgotten_on _ _ old new is)
