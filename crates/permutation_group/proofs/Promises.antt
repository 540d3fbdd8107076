-- What inverse, composition and sign promise, over what the calls say (01, "Permutations"). Assumes nothing.
--   composition-sends    p after q sends i to p(q(i))
--   compose_exactly    which pairs of records are composed, and to what
--   composition-is-a-permutation, inverse-of-a-permutation    what is given is a permutation of that length
--   compose-with-inverse    the inverse composed with p, either way round, is the identity
--   composition_is_associative    either way of composing three says the same
--   inverse_gives_a_whole_record, compose_gives_a_whole_record    a record that is given has all its entries
--   inverse_is_taken, composition_is_taken    and is taken by every call
--   sign_of_composition, sign_of_inverse    the sign of a composition is the product of the signs; that of the inverse is the sign
use Rattle.std.specs.Prelude.{Result, Ok}
use mathlib.Core.Path.{◌≡◌, sym, ap, ap₂, subst⁻¹, ◌∙◌}
use mathlib.Core.Logic.{◌↔◌}
use mathlib.Core.Bool.{not}
use mathlib.Core.List.{List}
use Prim.Native.Nat.{ℕ, ◌+◌, ◌≤◌, ◌<◌}
use native.Mathlib.Omega.{arith}
use borrow.Author.Tests.{ltb-false, le-ltb, eqb-true, eq-eqb, not-false}
use lib.Dec.{eqb}
use lib.ListN.{length, get_or}
use Rattle.words.specs.Word.{Below}
use Rattle.words.specs.Inversions.{inversions, parity}
use Rattle.arrangements.specs.Permutation.{Permutation as IsPermutation, identity, compose, inverse}
use Rattle.arrangements.proofs.Group.{compose_at, compose_associative, compose_is_a_permutation, inverse-is-a-permutation, compose-inverse, inverse-compose}
use Rattle.arrangements.proofs.Sign.{parity_of_compose, parity_of_inverse}
use Rattle.answers.specs.declared.Refusal.{Refusal}
use Rattle.answers.specs.declared.Sign.{Sign}
use Rattle.answers.specs.Says.{gives, answer_says}
use Rattle.answers.specs.Signs.{sign_of, times}
use Rattle.answers.proofs.Says.{gives_same, passed, then_gave}
use Rattle.answers.proofs.Signs.{sign_of_parity, times_of_sum}
use Rattle.permutation.specs.declared.Permutation.{Permutation}
use Rattle.permutation.specs.Record.{capacity, arrangement_of, record_of, Whole, GoodRecord, Agree, recorded}
use Rattle.permutation.specs.Rules.{too_long, is_good, not_a_permutation, taken_arrangement}
use Rattle.permutation_group.specs.Rules.{inverse_says, compose_says, sign_says}
use Rattle.permutation.proofs.Taken.{tested_holds, holds_good, taken_holds, holds_taken}
use Rattle.permutation.proofs.Arranging.{word_of_record, record_holds, recorded-whole}
use Rattle.permutation.proofs.Promises.{given_is_taken}

-- ---- composition

compose_agree : (p q : Permutation) → Agree p q → compose_says p q ≡ gives (compose (arrangement_of p) (arrangement_of q))
compose_agree p q a =
    simp (
      le-ltb capacity p.len a.left.short,
      le-ltb capacity q.len a.right.short,
      eq-eqb p.len q.len a.lengths,
      holds_good p a.left,
      holds_good q a.right,
    )

compose_given : (p q : Permutation) → Whole p → Whole q → (w : List ℕ) → compose_says p q ≡ gives w → Agree p q
compose_given p q l m w e =
    let a = passed (too_long p.len) 1 _ w e in
    let b = passed (too_long q.len) 1 _ w a.1 in
    let c = passed (not (eqb p.len q.len)) 8 _ w b.1 in
    let d = passed (not_a_permutation p) 10 _ w c.1 in
    let f = passed (not_a_permutation q) 10 (gives (compose (arrangement_of p) (arrangement_of q))) w d.1 in
    record {
      left = tested_holds p l (ltb-false capacity p.len a.0) (not-false (is_good p.entries p.len) d.0);
      right = tested_holds q m (ltb-false capacity q.len b.0) (not-false (is_good q.entries q.len) f.0);
      lengths = eqb-true p.len q.len (not-false (eqb p.len q.len) c.0);
    }

pub compose_exactly : (p q : Permutation) → Whole p → Whole q → (w : List ℕ) → (compose_says p q ≡ gives w) ↔ (Agree p q × (w ≡ compose (arrangement_of p) (arrangement_of q)))
compose_exactly p q l m w = (
  λ e. (compose_given p q l m w e, gives_same w (compose (arrangement_of p) (arrangement_of q)) (sym e ∙ compose_agree p q (compose_given p q l m w e))),
  λ t. compose_agree p q t.0 ∙ ap gives (sym t.1),
)

module _ (p q : Permutation) (l : Whole p) (m : Whole q) (w : List ℕ) (e : compose_says p q ≡ gives w) where
  composed : Agree p q × (w ≡ compose (arrangement_of p) (arrangement_of q))
  composed = (compose_exactly p q l m w).0 e

  pub composition-sends : (i : ℕ) → i < p.len → get_or w i 0 ≡ get_or (arrangement_of p) (get_or (arrangement_of q) i 0) 0
  composition-sends i h =
      ap (λ (u : List ℕ). get_or u i 0) composed.1 ∙ compose_at (arrangement_of p) (arrangement_of q) i (omega (arith, composed.0.lengths, composed.0.right.permutation.long))

  pub composition-is-a-permutation : IsPermutation p.len w
  composition-is-a-permutation =
      subst⁻¹ (IsPermutation p.len) composed.1
      (compose_is_a_permutation p.len (arrangement_of p) (arrangement_of q) composed.0.left.permutation
      (subst⁻¹ (λ (n : ℕ). IsPermutation n (arrangement_of q)) composed.0.lengths composed.0.right.permutation))

-- ---- the inverse

inverse_given : (p : Permutation) → Whole p → (v : List ℕ) → inverse_says p ≡ gives v → GoodRecord p × (v ≡ inverse (arrangement_of p))
inverse_given p l v e =
    let t = then_gave (taken_arrangement p) (λ w. gives (inverse w)) v e in
    let h = holds_taken p t.0 l t.1 in
    (h, gives_same v (inverse (arrangement_of p)) (sym e ∙ simp (taken_holds p h)))

module _ (p : Permutation) (l : Whole p) (v : List ℕ) (e : inverse_says p ≡ gives v) where
  inverted : GoodRecord p × (v ≡ inverse (arrangement_of p))
  inverted = inverse_given p l v e

  pub inverse-of-a-permutation : IsPermutation p.len v
  inverse-of-a-permutation = subst⁻¹ (IsPermutation p.len) inverted.1 (inverse-is-a-permutation p.len (arrangement_of p) inverted.0.permutation)

  pub compose-with-inverse : (compose_says p (record_of v) ≡ gives (identity p.len)) × (compose_says (record_of v) p ≡ gives (identity p.len))
  compose-with-inverse = (
    compose_agree p (record_of v) (record { left = inverted.0; right = record_holds p.len v inverse-of-a-permutation inverted.0.short; lengths = sym long })
        ∙ ap gives (ap (compose (arrangement_of p)) back ∙ compose-inverse p.len (arrangement_of p) inverted.0.permutation),
    compose_agree (record_of v) p (record { left = record_holds p.len v inverse-of-a-permutation inverted.0.short; right = inverted.0; lengths = long })
        ∙ ap gives (ap (λ (u : List ℕ). compose u (arrangement_of p)) back ∙ inverse-compose p.len (arrangement_of p) inverted.0.permutation),
  )
    where
      long : length v ≡ p.len
      long = inverse-of-a-permutation.long

      back : arrangement_of (record_of v) ≡ inverse (arrangement_of p)
      back = word_of_record v ∙ inverted.1

pub composition_is_associative : (p q r : Permutation) → Whole p → Whole q → Whole r → (u v : List ℕ) → compose_says p q ≡ gives u → compose_says q r ≡ gives v
    → compose_says (record_of u) r ≡ compose_says p (record_of v)
composition_is_associative p q r l m k u v e f =
    compose_agree (record_of u) r (record { left = record_holds p.len u pu a.0.left.short; right = b.0.right; lengths = pu.long ∙ a.0.lengths ∙ b.0.lengths })
    ∙ ap gives (ap (λ (w : List ℕ). compose w (arrangement_of r)) (word_of_record u ∙ a.1)
    ∙ compose_associative (arrangement_of p) (arrangement_of q) (arrangement_of r) (subst⁻¹ (λ (n : ℕ). Below n (arrangement_of r)) (b.0.left.permutation.long ∙ b.0.lengths) b.0.right.permutation.below)
    ∙ ap (compose (arrangement_of p)) (sym (word_of_record v ∙ b.1)))
    ∙ sym (compose_agree p (record_of v) (record { left = a.0.left; right = record_holds q.len v pv b.0.left.short; lengths = a.0.lengths ∙ sym pv.long }))
  where
    a : Agree p q × (u ≡ compose (arrangement_of p) (arrangement_of q))
    a = (compose_exactly p q l m u).0 e

    b : Agree q r × (v ≡ compose (arrangement_of q) (arrangement_of r))
    b = (compose_exactly q r m k v).0 f

    pu : IsPermutation p.len u
    pu = composition-is-a-permutation p q l m u e

    pv : IsPermutation q.len v
    pv = composition-is-a-permutation q r m k v f

-- ---- the records that are given

pub inverse_gives_a_whole_record : (p : Permutation) → Whole p → (r : Result Permutation Refusal) → answer_says r ≡ recorded (inverse_says p) → (q : Permutation) → r ≡ Ok q → Whole q
inverse_gives_a_whole_record p l r a =
    recorded-whole (inverse_says p) r a (λ v e. omega (arith, (inverse_given p l v e).0.short, (inverse-of-a-permutation p l v e).long))

pub compose_gives_a_whole_record : (p q : Permutation) → Whole p → Whole q → (r : Result Permutation Refusal) → answer_says r ≡ recorded (compose_says p q) → (v : Permutation) → r ≡ Ok v → Whole v
compose_gives_a_whole_record p q l m r a =
    recorded-whole (compose_says p q) r a (λ w e. omega (arith, (compose_given p q l m w e).left.short, (composition-is-a-permutation p q l m w e).long))

pub inverse_is_taken : (p : Permutation) → Whole p → (v : List ℕ) → inverse_says p ≡ gives v → taken_arrangement (record_of v) ≡ gives v
inverse_is_taken p l v e = given_is_taken p.len v (inverse-of-a-permutation p l v e) (inverse_given p l v e).0.short

pub composition_is_taken : (p q : Permutation) → Whole p → Whole q → (w : List ℕ) → compose_says p q ≡ gives w → taken_arrangement (record_of w) ≡ gives w
composition_is_taken p q l m w e = given_is_taken p.len w (composition-is-a-permutation p q l m w e) (compose_given p q l m w e).left.short

-- ---- the sign

sign_of_lem : (p : Permutation) → GoodRecord p → sign_says p ≡ gives (sign_of (inversions (arrangement_of p)))
sign_of_lem p h = simp (taken_holds p h)

-- the sign of the record of a list
sign_of_record : (n : ℕ) (w : List ℕ) → IsPermutation n w → n ≤ capacity → sign_says (record_of w) ≡ gives (sign_of (inversions w))
sign_of_record n w p l = sign_of_lem (record_of w) (record_holds n w p l) ∙ ap (λ (u : List ℕ). gives (sign_of (inversions u))) (word_of_record w)

pub sign_of_composition : (p q : Permutation) → Whole p → Whole q → (w : List ℕ) (a b : Sign) → compose_says p q ≡ gives w → sign_says p ≡ gives a → sign_says q ≡ gives b
    → sign_says (record_of w) ≡ gives (times a b)
sign_of_composition p q l m w a b e f g =
    sign_of_record p.len w (composition-is-a-permutation p q l m w e) t.0.left.short
    ∙ ap gives (ap (λ (u : List ℕ). sign_of (inversions u)) t.1
    ∙ sign_of_parity (inversions (compose (arrangement_of p) (arrangement_of q))) (inversions (arrangement_of p) + inversions (arrangement_of q)) parities
    ∙ sym (times_of_sum (inversions (arrangement_of p)) (inversions (arrangement_of q)))
    ∙ ap₂ times (gives_same _ a (sym (sign_of_lem p t.0.left) ∙ f)) (gives_same _ b (sym (sign_of_lem q t.0.right) ∙ g)))
  where
    t : Agree p q × (w ≡ compose (arrangement_of p) (arrangement_of q))
    t = (compose_exactly p q l m w).0 e

    parities : parity (inversions (compose (arrangement_of p) (arrangement_of q))) ≡ parity (inversions (arrangement_of p) + inversions (arrangement_of q))
    parities =
        parity_of_compose p.len (arrangement_of p) (arrangement_of q) t.0.left.permutation
        (subst⁻¹ (λ (n : ℕ). IsPermutation n (arrangement_of q)) t.0.lengths t.0.right.permutation)

pub sign_of_inverse : (p : Permutation) → Whole p → (v : List ℕ) → inverse_says p ≡ gives v → sign_says (record_of v) ≡ sign_says p
sign_of_inverse p l v e =
    sign_of_record p.len v (inverse-of-a-permutation p l v e) t.0.short
    ∙ ap gives (ap (λ (u : List ℕ). sign_of (inversions u)) t.1
    ∙ sign_of_parity (inversions (inverse (arrangement_of p))) (inversions (arrangement_of p)) (parity_of_inverse p.len (arrangement_of p) t.0.permutation))
    ∙ sym (sign_of_lem p t.0)
  where
    t : GoodRecord p × (v ≡ inverse (arrangement_of p))
    t = inverse_given p l v e
