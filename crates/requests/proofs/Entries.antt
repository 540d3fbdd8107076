-- An entry is a verb, a space and a pattern, and the first space of it is the one between them. Assumes nothing.
--   another-verb, no-pattern    an entry of another verb, or with no space, is not asked for
--   pattern-decides    of an entry with this verb, the pattern decides
use mathlib.Core.Bool.{Bool, true, false}
use mathlib.Core.Path.{◌≡◌, sym, ap, ap₂, subst, ◌∙◌}
use mathlib.Core.List.{List, ◌∷◌, ◌++◌}
use Prim.Native.Nat.{ℕ, ◌+◌, ◌-◌, ◌<◌}
use native.Mathlib.Nat.{sub-zero}
use native.Mathlib.Numerals.{add-one}
use native.Mathlib.Omega.{arith}
use lib.ListN.{length, take, drop, get_or, length-append, length-take, length-drop}
use lib.Arith.{lt_of_le-ne}
use lib.Seq.{split_at, take-append_seam, drop-append-add, take_all, get_or-take}
use Rattle.text.specs.Text.{Found}
use Rattle.text.proofs.Found.{found_first}
use Rattle.requests.specs.Patterns.{fits_pattern, Wants}

abbrev Decides : Bool → List ℕ → List ℕ → List ℕ → Type 0
Decides r verb kinds entry = (r ≡ true → Wants verb kinds entry) × (Wants verb kinds entry → r ≡ true)

refused : {A : Type 0} → false ≡ true → A
refused e = absurd (let z : ◌≡◌ {A = ℕ} 0 1 = cc in omega arith)

module _ (verb kinds entry : List ℕ) (e : ℕ) (f : Found entry 0 32 e) where
  place : Wants verb kinds entry → e ≡ length verb
  place w = found_first verb w.pattern 32 e w.one_text (subst (λ (s : List ℕ). Found s 0 32 e) w.whole f)

  verb-first : Wants verb kinds entry → verb ≡ take (e - 0) entry
  verb-first w = sym (ap₂ (λ (k : ℕ) (s : List ℕ). take k s) (sub-zero e ∙ place w) w.whole ∙ take-append_seam verb (32 ∷ w.pattern))

  pub another-verb : (verb ≡ take (e - 0) entry → ⊥) → Decides false verb kinds entry
  another-verb d = (λ t. refused t, λ w. absurd (d (verb-first w)))

  pub no-pattern : e ≡ length entry → Decides false verb kinds entry
  no-pattern h = (λ t. refused t, λ w. absurd (omega (arith, place w, ap length w.whole, length-append verb (32 ∷ w.pattern))))

  abbrev after-space : List ℕ
  after-space = take (length entry - (e + 1)) (drop (e + 1) entry)

  all_after : after-space ≡ drop (e + 1) entry
  all_after = take_all (length entry - (e + 1)) (drop (e + 1) entry) (simp length-drop (omega arith))

  pub pattern-decides : (r : Bool) → (e ≡ length entry → ⊥) → verb ≡ take (e - 0) entry → r ≡ fits_pattern after-space kinds → Decides r verb kinds entry
  pattern-decides r d v q = (wants, asked)
    where
      in_e : e < length entry
      in_e = lt_of_le-ne f.within d

      verb-is : verb ≡ take e entry
      verb-is = v ∙ ap (λ (k : ℕ). take k entry) (sub-zero e)

      wants : r ≡ true → Wants verb kinds entry
      wants t =
          record {
            pattern = after-space;
            whole = split_at entry e 0 in_e ∙ ap₂ (λ (b : ℕ) (k : ℕ). take e entry ++ (b ∷ drop k entry)) (f.there in_e) (sym (add-one e))
                ∙ ap₂ (λ (u : List ℕ) (p : List ℕ). u ++ (32 ∷ p)) (sym verb-is) (sym all_after);
            one_text = λ k l z. f.none k (omega (arith, ap length verb-is, length-take e entry)) (omega arith)
                (sym (get_or-take e entry k 0 (omega (arith, ap length verb-is, length-take e entry))) ∙ ap (λ (u : List ℕ). get_or u k 0) (sym verb-is) ∙ z);
            fit = sym q ∙ t;
          }

      asked : Wants verb kinds entry → r ≡ true
      asked w =
          let p : after-space ≡ w.pattern = all_after ∙ ap₂ (λ (k : ℕ) (s : List ℕ). drop (k + 1) s) (place w) w.whole ∙ drop-append-add verb (32 ∷ w.pattern) 1 in
          q ∙ ap (λ (s : List ℕ). fits_pattern s kinds) p ∙ w.fit
