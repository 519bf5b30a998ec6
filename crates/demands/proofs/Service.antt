-- The moves in service, move by move, after one call more. Assumes nothing.
use mathlib.Core.Path.{◌≡◌, refl, ap, ◌∙◌}
use mathlib.Core.Logic.Iff
use mathlib.Core.Logic.{◌↔◌, inl, inr}
use mathlib.Core.Bool.{true, false, not}
use mathlib.Core.List.{List, [], ◌∷◌, ◌++◌}
use Prim.Native.Nat.{ℕ}
use borrow.Author.Tests.{ne_eqb}
use Rattle.statements.specs.Sets.{bit, is_in}
use Rattle.statements.specs.Plants.{Plant}
use Rattle.statements.specs.Books.{less_mask, masks_of, union_of}
use Rattle.statements.specs.Calls.{Call, told_of, number_told, put_after, in_service}
use Rattle.statements.specs.Demands.{InService}
use Rattle.sets.proofs.Tests.{decided, not_both, and_true}
use Rattle.sets.proofs.Bits.{all_bits}
use Rattle.decoding.proofs.Masks.{less_is, less_bit, or_names, union_names}

-- a call more puts its moves in service last
last_put : (p : Plant) (mask : ℕ) (calls : List Call) (c : Call) →
    in_service p mask (calls ++ (c ∷ [])) ≡ put_after p (in_service p mask calls) c
unfolding in_service
last_put p mask [] c = refl
last_put p mask (d ∷ ds) c = last_put p (put_after p mask d) ds c

-- refused, it leaves them
put_refused : (p : Plant) (mask : ℕ) (c : Call) → (number_told p c ≡ 0 → ⊥) → put_after p mask c ≡ mask
unfolding put_after
put_refused p mask c out = rw (ne_eqb (number_told p c) 0 out)

-- accepted, it puts those of its kind
put_accepted : (p : Plant) (mask : ℕ) (calls : List Call) (c : Call) → number_told p c ≡ 0 →
    in_service p mask (calls ++ (c ∷ [])) ≡ (told_of p c.ask).put (in_service p mask calls)
unfolding put_after
put_accepted p mask calls c e = last_put p mask calls c ∙ rw e

-- a move of a mask less another
pub less_names : (a b u : ℕ) → (bit u (less_mask a b) ≡ true) ↔ ((bit u a ≡ true) × (bit u b ≡ false))
less_names a b u = (less_bit u a b, λ h. less_is u a b ∙ and_true h.0 (ap not h.1))

-- a move that none of some masks names
none_names : (masks : List ℕ) (u : ℕ) →
    (bit u (union_of masks) ≡ false) ↔ ((gone : ℕ) → is_in gone masks ≡ true → bit u gone ≡ false)
none_names masks u = (
  λ e gone m.
      elim (decided (bit u gone)) [
        | inl t ↦ absurd (not_both ((union_names masks u).1 (gone, m, t)) e)
        | inr f ↦ f
      ],
  λ none.
      elim (decided (bit u (union_of masks))) [
        | inl t ↦ let r = (union_names masks u).0 t in absurd (not_both r.2 (none r.0 r.1))
        | inr f ↦ f
      ],
)

pub in_service_lem : InService
unfolding in_service told_of
in_service_lem =
    record {
      same = λ mask other. (λ e u. ap (bit u) e, all_bits mask other);
      first = λ p mask. refl;
      refused = λ p mask calls c out. last_put p mask calls c ∙ put_refused p (in_service p mask calls) c out;
      made = λ p mask new room drops calls e u. rw (put_accepted p mask calls _ e) (λ h. h, λ h. h);
      withdrawn = λ p mask gone room drops calls e u.
          rw (put_accepted p mask calls _ e) (less_names (in_service p mask calls) gone u);
      withdrawn_list_lem = λ p mask room drops masks calls e u.
          rw (put_accepted p mask calls _ e)
          (Iff.trans (less_names (in_service p mask calls) (union_of (masks_of masks)) u)
          (λ h. (h.0, (none_names (masks_of masks) u).0 h.1), λ h. (h.0, (none_names (masks_of masks) u).1 h.1)));
      returned = λ p mask back room drops calls e u.
          rw (put_accepted p mask calls _ e) (or_names (in_service p mask calls) back u);
      made_by = λ p mask new room drops index calls e u. rw (put_accepted p mask calls _ e) (λ h. h, λ h. h);
      withdrawn_by = λ p mask gone room drops index calls e u.
          rw (put_accepted p mask calls _ e) (less_names (in_service p mask calls) gone u);
    }
