use Rattle.std.proofs.Common.{◌+◌, ◌-◌, length, take, refl, ap, ◌∙◌, arith}
use lib.Seq.{paste}
use Rattle.std.proofs.lemmas.Slice.{put_mid-paste}
use Rattle.store.proofs.FlatArray.{flat_spliced}
use Rattle.store.proofs.flat.splice.Goals as goal

pub returns : goal.returns
returns c =
    let cells = c.args.cells.now in
    let put = c.args.change.put.now in
    let used = c.args.used in
    let place = c.args.change.place in
    let count = c.args.change.take in
    let new = used - count + length put in
    let n = used - (place + count) in
    ap (take new) (put_mid-paste place _ _ _ put (length put) c.copy_from_slice.ensures.after (omega arith) refl)
    ∙ ap (λ xs. take new (paste xs place put (length put))) c.copy_within.ensures.after
    ∙ flat_spliced cells put used place count n new (omega arith) (omega arith) c.requires.inside c.requires.fits
