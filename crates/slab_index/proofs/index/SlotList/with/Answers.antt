use Rattle.std.proofs.Common.{◌∙◌, ap}
use Rattle.slab_index.specs.Kept.{put_kept}
use Rattle.slab_index.proofs.lemmas.Telling.{put_between}
use Rattle.slab_index.proofs.index.SlotList.with.Goals as goal

pub returns : goal.returns
returns c =
    put_between c.args.kept c.as_slice-old.result.now c.place_of-place.result c.place_of-place.ensures _ _ _ _
    c.in_ok-list.ensures.items c.in_ok-extend_from_slice.ensures.items c.in_ok-push.ensures.items c.in_ok-extend_from_slice-2.ensures.items
    ∙ ap (put_kept c.args.kept) (c.as_slice-old.ensures.value ∙ c.self.view_is)
