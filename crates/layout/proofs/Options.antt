-- A value that is picked by a test, and none where the test fails. Assumes nothing.
use Rattle.std.proofs.Common.{◌≡◌, Some, None, Bool, true, false, refl}
use Rattle.statements.specs.Sets.{pick}

module _ {A : Type 0} where
  -- with some the test holds, and it is the value
  pub some_yes : (b : Bool) (x y : A) → Some y ≡ pick b (Some x) None → b ≡ true
  some_yes true x y e = refl
  some_yes false x y e = cc

  pub some_is : (b : Bool) (x y : A) → Some y ≡ pick b (Some x) None → y ≡ x
  some_is true x y e = cc
  some_is false x y e = cc

  -- with none it fails
  pub none_no : (b : Bool) (x : A) → None ≡ pick b (Some x) None → b ≡ false
  none_no true x e = cc
  none_no false x e = refl

  -- and the other way round
  pub some_picked : (b : Bool) (x y : A) → b ≡ true → y ≡ x → Some y ≡ pick b (Some x) None
  some_picked b x y e f = rw (e, f)

  pub none_picked : (b : Bool) (x : A) → b ≡ false → None ≡ pick b (Some x) None
  none_picked b x e = rw e
