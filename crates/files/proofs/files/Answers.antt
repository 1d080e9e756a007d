-- The place that was found is H.FMAX + 1 where no number offends; all headers in use are then below it.
use Rattle.files.proofs.FileLaws.{files-none, files-refused}
use Rattle.files.proofs.SingleLaws.{unlinked-all}
use Rattle.files.proofs.files.Goals as goal

pub returns-in-Ok : goal.returns-in-Ok
returns-in-Ok c =
    let image = c.args.image.now in
    (files-none image c.in-Ok.ensures.0, λ t. unlinked-all image (c.in-Ok.ensures.1 t))

pub returns-in-Err : goal.returns-in-Err
returns-in-Err c =
    rw c.unmet_of.ensures (files-refused c.args.image.now c.in-Err.n.0 c.in-Err.ensures.0 c.in-Err.ensures.1)
