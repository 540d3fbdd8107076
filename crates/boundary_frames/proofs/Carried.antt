-- What a refusal carries, with a frame behind it. Assumes nothing.
--   place_before_frame    the place is the refusal's own, 0 if it carries none
--   frame_stands_last    the frame is the one that was put there
use mathlib.Core.List.{[], ◌∷◌, ◌++◌}
use mathlib.Core.Path.{◌≡◌, refl}
use Prim.Native.Nat.{ℕ}
use Rattle.answers.specs.declared.Refusal.{Refusal}
use Rattle.answers.specs.declared.Refusal.TheVariants.{TooWide, NotMonotone, NoSuchRank, Last, Repeated, FamilyDiffers, Outside, Shape, TooBig, NotAPermutation, BadImage, NoSuchTable, FramesDiffer, NotFinite}
use Rattle.answers.specs.Says.{carried_by, place_of}
use Rattle.boundary_frames.specs.Frames.{place_before, frame_in}

pub place_before_frame : (e : Refusal) → (f : ℕ) → place_before (carried_by e ++ f ∷ []) ≡ place_of (carried_by e)
place_before_frame TooWide f = refl
place_before_frame (NotMonotone at) f = refl
place_before_frame NoSuchRank f = refl
place_before_frame Last f = refl
place_before_frame Repeated f = refl
place_before_frame FamilyDiffers f = refl
place_before_frame Outside f = refl
place_before_frame Shape f = refl
place_before_frame TooBig f = refl
place_before_frame NotAPermutation f = refl
place_before_frame (BadImage at) f = refl
place_before_frame NoSuchTable f = refl
place_before_frame FramesDiffer f = refl
place_before_frame NotFinite f = refl

pub frame_stands_last : (e : Refusal) → (f : ℕ) → frame_in (carried_by e ++ f ∷ []) ≡ f
frame_stands_last TooWide f = refl
frame_stands_last (NotMonotone at) f = refl
frame_stands_last NoSuchRank f = refl
frame_stands_last Last f = refl
frame_stands_last Repeated f = refl
frame_stands_last FamilyDiffers f = refl
frame_stands_last Outside f = refl
frame_stands_last Shape f = refl
frame_stands_last TooBig f = refl
frame_stands_last NotAPermutation f = refl
frame_stands_last (BadImage at) f = refl
frame_stands_last NoSuchTable f = refl
frame_stands_last FramesDiffer f = refl
frame_stands_last NotFinite f = refl
