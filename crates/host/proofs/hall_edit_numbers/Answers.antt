use native.Mathlib.Omega.{arith}
use Rattle.flat_list.proofs.Flat.{other-few, place-is}
use Rattle.host.proofs.hall_edit_numbers.Goals as goal

pub overflow_cast-result : goal.overflow_cast-result
overflow_cast-result c = omega (arith, place-is _ _ c.in-Some.ensures, other-few c.args.list.now)
