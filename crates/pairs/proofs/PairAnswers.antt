-- Why a pair is refused, from what the code has read by then: 5 of a new one, 6 of one to be taken back, then 7.
use mathlib.Core.Path.{◌≡◌}
use mathlib.Core.Bool.{true, false, not}
use Prim.Native.Nat.{ℕ}
use Rattle.sets.specs.Mask.{bit}
use Rattle.rules.specs.Book.{Book}
use Rattle.rules.specs.Requests.{relate, unrelate}
use Rattle.rules.specs.Numbers.{Said, say, open_refusal, state_refusal}
use Rattle.deeds.proofs.CascadeLaws.{given_yes, given_no}

module _ (d : Book) (n a b c : ℕ) where
  -- A new pair. 5: it is set.
  pub pair_set : bit (d.row n a) b ≡ true → say 5 ≡ state_refusal d (relate n) a b c
  unfolding state_refusal
  pair_set e = given_yes _ _ _ e

  -- Else 7 is asked.
  pub pair_free_lem : {out : Said} → bit (d.row n a) b ≡ false → out ≡ open_refusal d → out ≡ state_refusal d (relate n) a b c
  unfolding state_refusal
  pair_free_lem e = given_no _ _ _ e

  -- A pair to be taken back. 6: bit b of row a is not set.
  pub pair_missing : not (bit (d.row n a) b) ≡ true → say 6 ≡ state_refusal d (unrelate n) a b c
  unfolding state_refusal
  pair_missing e = given_yes _ _ _ e

  -- Else 7 is asked.
  pub pair_there : {out : Said} → not (bit (d.row n a) b) ≡ false → out ≡ open_refusal d → out ≡ state_refusal d (unrelate n) a b c
  unfolding state_refusal
  pair_there e = given_no _ _ _ e
