-- `boundary_frames::refused` meets its contract: the number, the place and the frame are those of the refusal. Assumes nothing.
use mathlib.Core.Path.{refl}
use Rattle.boundary_frames.proofs.Carried.{place_before_frame, frame_stands_last}
use Rattle.boundary_frames.proofs.refused.Goals as goal

pub returns : goal.returns
returns c =
    simp (c.number-number.ensures, c.place-at.ensures, place_before_frame c.args.e c.args.frame, frame_stands_last c.args.e c.args.frame) refl
