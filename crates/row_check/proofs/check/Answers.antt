use Prim.Native.Nat.{ℕ, ◌<◌, ◌≤◌}
use mathlib.Core.Path.{◌≡◌, refl, sym, ap, ◌∙◌}
use mathlib.Core.Bool.{not}
use native.Mathlib.Omega.{arith}
use lib.ListN.{length, take, replicate, length-replicate, get_or-replicate}
use lib.Seq.{length-take-le}
use Rattle.routes.specs.Route.{mark}
use Rattle.row_check.specs.Tests.{at}
use Rattle.row_check.proofs.Verdict.{Parts, parts-of, Opened, failed, passed-source, passed-reached, passed-in-all, passed-little, little-divides, opened-balance, improved, balanced-pays, decided}
use Rattle.row_check.proofs.check.Goals.{Else-not-light, Start}
use Rattle.row_check.proofs.check.Goals as goal

wide : (n : ℕ) → n ≤ 64 → length (take n (replicate {A = ℕ} 64 0)) ≡ n
wide n l = length-take-le n (replicate 64 0) (omega (arith, length-replicate {A = ℕ} 64 0))

parts : (c : Start) → Parts c.args.network.n c.args.time.now c.args.ways.now c.args.share.now
parts c = parts-of _ _ _ c.requires.time_len

opened : (c : Else-not-light) → let a = (c.args) in ((t : ℕ) → t < a.network.n → at a.time.now t ≤ mark) → Opened a.network.n a.s a.time.now a.ways.now a.share.now
opened c bounded = record {
  source = sym c.at_source.ensures ∙ c.if-not-at_source.false;
  reached = sym c.reached.ensures ∙ c.if-not-reached.false;
  in_all = sym c.few_in_all.ensures ∙ c.if-not-few_in_all.false;
  light = sym c.light.ensures ∙ c.if-not-light.false;
  bounded = bounded;
}

pub returns-then-not-at_source : goal.returns-then-not-at_source
returns-then-not-at_source c = let a = c.args in let P = parts (goal.at.returns-then-not-at_source c).Start in failed a.network a.measure c.requires.source P (passed-source a.network a.measure c.requires.source P) c.at_source.ensures (ap not c.if-not-at_source.true)

pub returns-then-not-reached : goal.returns-then-not-reached
returns-then-not-reached c = let a = c.args in let P = parts (goal.at.returns-then-not-reached c).Start in failed a.network a.measure c.requires.source P (passed-reached a.network a.measure c.requires.source P) c.reached.ensures (ap not c.if-not-reached.true)

pub returns-then-not-few_in_all : goal.returns-then-not-few_in_all
returns-then-not-few_in_all c = let a = c.args in let P = parts (goal.at.returns-then-not-few_in_all c).Start in failed a.network a.measure c.requires.source P (passed-in-all a.network a.measure c.requires.source P) c.few_in_all.ensures (ap not c.if-not-few_in_all.true)

pub returns-then-not-light : goal.returns-then-not-light
returns-then-not-light c = let a = c.args in let P = parts (goal.at.returns-then-not-light c).Start in failed a.network a.measure c.requires.source P (passed-little a.network a.measure c.requires.source P) c.light.ensures (ap not c.if-not-light.true)

pub hand_back-requires : goal.hand_back-requires
hand_back-requires c =
    let a = c.args in
    little-divides a.network a.measure c.requires.source (parts (goal.at.hand_back-requires c).Start) (sym c.light.ensures ∙ c.if-not-light.false) (wide a.network.n a.network.linked.most)

pub flows-requires-clause-asked : goal.flows-requires-clause-asked
flows-requires-clause-asked c =
    let a = c.args in
    opened-balance a.network a.measure c.requires.source (parts (goal.at.flows-requires-clause-asked c).Start) (opened (goal.at.flows-requires-clause-asked c).Else-not-light (λ t l. omega (arith, c.type_inv.time t))) c.hand_back.ensures

pub flows-requires-clause-empty : goal.flows-requires-clause-empty
flows-requires-clause-empty c = λ t l. get_or-replicate {A = ℕ} 64 t 0 0 l

pub returns-in_default : goal.returns-in_default
returns-in_default c = let a = c.args in improved a.network a.measure c.requires.source (parts (goal.at.returns-in_default c).Start) c.in_default.ensures

pub balanced-requires : goal.balanced-requires
balanced-requires c =
    let a = c.args in
    balanced-pays a.network a.measure c.requires.source (parts (goal.at.balanced-requires c).Start) (opened (goal.at.balanced-requires c).Else-not-light (λ t l. omega (arith, c.type_inv.time t))) c.hand_back.ensures c.in-Some.ensures

pub returns-then-balanced : goal.returns-then-balanced
returns-then-balanced c =
    let a = c.args in
    rw c.if-balanced.true at
    (decided a.network a.measure c.requires.source (parts (goal.at.returns-then-balanced c).Start) (opened (goal.at.returns-then-balanced c).Else-not-light (λ t l. omega (arith, c.type_inv.time t))) c.hand_back.ensures c.in-Some.ensures c.balanced.ensures c.counted.ensures)

pub returns-else-balanced : goal.returns-else-balanced
returns-else-balanced c =
    let a = c.args in
    c.if-balanced.false
    ∙ (rw c.if-balanced.false at
    (decided a.network a.measure c.requires.source (parts (goal.at.returns-else-balanced c).Start) (opened (goal.at.returns-else-balanced c).Else-not-light (λ t l. omega (arith, c.type_inv.time t))) c.hand_back.ensures c.in-Some.ensures c.balanced.ensures refl))
