-- `refusals::words::put_label` meets its contract. Assumes nothing.
use native.Mathlib.Omega.{arith}
use Rattle.laws.specs.Bytes.{bytes}
use Rattle.lists.proofs.Writing.{nothing}
use Rattle.refusals.specs.Words.{labels, label}
use Rattle.refusals.proofs.Labels.{unlabelled}
use Rattle.refusals.proofs.words.put_label.Goals as goal

pub returns-in-2 : goal.returns-in-2
unfolding label labels bytes
returns-in-2 c = rw c.in-2.is c.bytes.ensures

pub returns-in-3 : goal.returns-in-3
unfolding label labels bytes
returns-in-3 c = rw c.in-3.is c.bytes-in-3.ensures

pub returns-in-4 : goal.returns-in-4
unfolding label labels bytes
returns-in-4 c = rw c.in-4.is c.bytes-in-4.ensures

pub returns-in-6 : goal.returns-in-6
unfolding label labels bytes
returns-in-6 c = rw c.in-6.is c.bytes-in-6.ensures

pub returns-in-7 : goal.returns-in-7
unfolding label labels bytes
returns-in-7 c = rw c.in-7.is c.bytes-in-7.ensures

pub returns-in-8 : goal.returns-in-8
unfolding label labels bytes
returns-in-8 c = rw c.in-8.is c.bytes-in-8.ensures

pub returns-in-9 : goal.returns-in-9
unfolding label labels bytes
returns-in-9 c = rw c.in-9.is c.bytes-in-9.ensures

pub returns-in-10 : goal.returns-in-10
unfolding label labels bytes
returns-in-10 c = rw c.in-10.is c.bytes-in-10.ensures

pub returns-in-11 : goal.returns-in-11
unfolding label labels bytes
returns-in-11 c = rw c.in-11.is c.bytes-in-11.ensures

pub returns-in-12 : goal.returns-in-12
unfolding label labels bytes
returns-in-12 c = rw c.in-12.is c.bytes-in-12.ensures

pub returns-in-13 : goal.returns-in-13
unfolding label labels bytes
returns-in-13 c = rw c.in-13.is c.bytes-in-13.ensures

pub returns-in-14 : goal.returns-in-14
unfolding label labels bytes
returns-in-14 c = rw c.in-14.is c.bytes-in-14.ensures

pub returns-in_default : goal.returns-in_default
returns-in_default c =
    rw (unlabelled c.args.kind (λ e. omega arith) (λ e. omega arith) (λ e. omega arith) (λ e. omega arith) (λ e. omega arith)
    (λ e. omega arith) (λ e. omega arith) (λ e. omega arith) (λ e. omega arith) (λ e. omega arith) (λ e. omega arith)
    (λ e. omega arith)) (nothing c.args.w.now)
