-- The check in pieces, whatever its caller does (02, section 13). Assumes nothing.
--   ends_anywhere    once the end has been announced, the verdict is that of the check of all bytes fed before the first end, joined, whatever comes after it
--   open_or_told    before that, it is the refusal of the check of all bytes fed, joined, where its offset is below their number, and open otherwise
--   whole_image_waits    so a whole image is open until the end
--   refusal_is_final    after a refusal nothing changes
--   parts_are_the_state    a state that is lent in four parts and taken up again is the same, so what is said here of states holds of calls on the parts, one after the other
--   invented_at_worst    at the end an open state that somebody made up says of some image of as many bytes what the check says of it
--   invented_too_long    and where it says that more than 65,536 bytes have been seen, it is refused
use mathlib.Core.Path.{◌≡◌, refl, sym, ap, ◌∙◌}
use mathlib.Core.Bool.{true, false}
use mathlib.Core.List.{List, [], ◌∷◌, ◌++◌}
use Prim.Native.Nat.{ℕ, zero, suc, ◌<◌}
use native.Mathlib.Omega.{arith}
use lib.ListN.{length, get_or, take, replicate, length-append, length-replicate}
use lib.Seq.{length-take-le, get_or-take}
use Rattle.answers.specs.Says.{Says, refuses_at, gives}
use Rattle.image_rules.specs.Image.{check_says, image_says}
use Rattle.image_rules.proofs.Local.{check_same, check_over}
use Rattle.pieces.specs.declared.Verdict.{Verdict}
use Rattle.pieces.specs.declared.Verdict.TheVariants.{Open, Good, Bad}
use Rattle.pieces.specs.declared.Pieces.{Pieces}
use Rattle.pieces.specs.Pieces.{start, fed, closed, fed_all, joined, told, verdict_says}
use Rattle.pieces.proofs.Cutting.{cut_anyhow, told_so_far, told-stays, closed-told, open_says, fed_after_end, end_after_end}
use Rattle.pieces_lent.specs.Parts.{verdict_at, code_of, number_in, state_at}
use Rattle.image_promises.specs.Steps.{Step, piece, over, ran, before, is_over}

-- ---- ends anywhere

ran-closed : (p : Pieces) (ss : List Step) → ran (closed p) ss ≡ closed p
unfolding ran
ran-closed p [] = refl
ran-closed p (piece s ∷ ss) = ap (λ (q : Pieces). ran q ss) (fed_after_end p s) ∙ ran-closed p ss
ran-closed p (over ∷ ss) = ap (λ (q : Pieces). ran q ss) (end_after_end p) ∙ ran-closed p ss

ran_over : (p : Pieces) (ss : List Step) → is_over ss ≡ true → ran p ss ≡ closed (fed_all p (before ss))
unfolding ran before is_over fed_all
ran_over p [] h = absurd (let z : ◌≡◌ {A = ℕ} 0 1 = cc in omega arith)
ran_over p (piece s ∷ ss) h = ran_over (fed p s) ss h
ran_over p (over ∷ ss) h = ran-closed p ss

ran_open : (p : Pieces) (ss : List Step) → is_over ss ≡ false → ran p ss ≡ fed_all p (before ss)
unfolding ran before is_over fed_all
ran_open p [] h = refl
ran_open p (piece s ∷ ss) h = ran_open (fed p s) ss h
ran_open p (over ∷ ss) h = absurd (let z : ◌≡◌ {A = ℕ} 0 1 = cc in omega arith)

pub ends_anywhere : (ss : List Step) → is_over ss ≡ true → verdict_says (ran start ss).verdict ≡ image_says (joined (before ss))
ends_anywhere ss h = ap (λ (q : Pieces). verdict_says q.verdict) (ran_over start ss h) ∙ cut_anyhow (before ss)

pub open_or_told : (ss : List Step) → is_over ss ≡ false → (ran start ss).verdict ≡ told (image_says (joined (before ss))) (length (joined (before ss)))
open_or_told ss h = ap (λ (q : Pieces). q.verdict) (ran_open start ss h) ∙ told_so_far (before ss)

pub whole_image_waits : (ss : List Step) (t : ℕ) → is_over ss ≡ false → image_says (joined (before ss)) ≡ gives t → (ran start ss).verdict ≡ Open
whole_image_waits ss t h e = open_or_told ss h ∙ ap (λ (s : Says ℕ). told s (length (joined (before ss)))) e

pub refusal_is_final : (p : Pieces) (at : ℕ) (ss : List Step) → p.verdict ≡ Bad at → ran p ss ≡ p
unfolding ran
refusal_is_final p at [] e = refl
refusal_is_final p at (piece s ∷ ss) e = ap (λ (q : Pieces). ran q ss) (told-stays p at s e) ∙ refusal_is_final p at ss e
refusal_is_final p at (over ∷ ss) e = ap (λ (q : Pieces). ran q ss) (closed-told p at e) ∙ refusal_is_final p at ss e

-- ---- the state in four parts

pub parts_are_the_state : (p : Pieces) → state_at p.bytes p.seen (code_of p.verdict) (number_in p.verdict) ≡ p
parts_are_the_state p = ap (λ (v : Verdict). record { bytes = p.bytes; seen = p.seen; verdict = v }) (back p.verdict)
  where
    back : (v : Verdict) → verdict_at (code_of v) (number_in v) ≡ v
    back Open = refl
    back (Good t) = refl
    back (Bad at) = refl

-- ---- a state that somebody made up

-- a list with zeros behind it reads as the list
padded : (b : List ℕ) (n j : ℕ) → get_or (b ++ replicate {A = ℕ} n 0) j 0 ≡ get_or b j 0
padded [] n j = zeros n j
  where
    zeros : (n j : ℕ) → ◌≡◌ {A = ℕ} (get_or (replicate {A = ℕ} n 0) j 0) 0
    zeros zero j = refl
    zeros (suc n) zero = refl
    zeros (suc n) (suc j) = zeros n j
padded (x ∷ b) n zero = refl
padded (x ∷ b) n (suc j) = padded b n j

pub invented_at_worst : (p : Pieces) → p.verdict ≡ Open → (l : List ℕ) × (length l ≡ p.seen) × (verdict_says (closed p).verdict ≡ image_says l)
invented_at_worst p e =
    let n = p.seen in
    let l = take p.seen (p.bytes ++ replicate p.seen 0) in
    let long : length l ≡ p.seen = length-take-le p.seen (p.bytes ++ replicate p.seen 0) (omega (arith, length-append p.bytes (replicate {A = ℕ} p.seen 0), length-replicate {A = ℕ} p.seen 0)) in
    (l, long, open_says p e ∙ check_same p.bytes l p.seen (λ j a b. sym (get_or-take p.seen (p.bytes ++ replicate p.seen 0) j 0 a ∙ padded p.bytes p.seen j)) ∙ ap (check_says l) (sym long))

pub invented_too_long : (p : Pieces) → p.verdict ≡ Open → 65536 < p.seen → (at : ℕ) × (at < p.seen) × (verdict_says (closed p).verdict ≡ refuses_at 11 at)
invented_too_long p e h = let c = check_over p.bytes p.seen h in (c.0, c.1, open_says p e ∙ c.2)
