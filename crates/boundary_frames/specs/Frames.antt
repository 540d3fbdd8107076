-- How the answers on a frame cross to a program in C: the refusal comes back with the frame that it names. Assumes nothing.
--   frame_answered    what comes back of an answer: three zeros
--   place_before c, frame_in c    of what a refusal carries: the place, 0 if there is none, and the frame, which stands last
--   frame_refused e c    what comes back of a refusal: its number e in 01's table, the place and the frame among what it carries
--   frame_status s    what comes back: the one or the other
--   frame_of s, pressure_of s, temperature_of s    the parts of a sample
--   the_mass m    a mass that is the whole value
use Rattle.std.specs.Prelude.{List, [], ◌∷◌, ℕ, Float}
use Rattle.answers.specs.Says.{Says, refuses_with, gives}
use Rattle.mass.specs.declared.Sample.{Sample}
use Rattle.boundary_frames.specs.declared.FrameStatus.{FrameStatus}

abbrev pub frame_answered : FrameStatus
frame_answered = record { number = 0; at = 0; frame = 0 }

abbrev pub place_before : List ℕ → ℕ
place_before [] = 0
place_before (f ∷ []) = 0
place_before (a ∷ f ∷ c) = a

abbrev pub frame_in : List ℕ → ℕ
frame_in [] = 0
frame_in (f ∷ []) = f
frame_in (a ∷ f ∷ c) = f

abbrev pub frame_refused : ℕ → List ℕ → FrameStatus
frame_refused e c = record { number = e; at = place_before c; frame = frame_in c }

abbrev pub frame_status : {A : Type 0} → Says A → FrameStatus
frame_status (refuses_with e c) = frame_refused e c
frame_status (gives a) = frame_answered

abbrev pub frame_of : Sample → ℕ
frame_of s = s.frame

abbrev pub pressure_of : Sample → Float
pressure_of s = s.pressure

abbrev pub temperature_of : Sample → Float
temperature_of s = s.temperature

abbrev pub the_mass : Float → Float
the_mass m = m
