use mathlib.Core.Path.{sym, ap, ◌∙◌}
use mathlib.Core.Bool.{not}
use borrow.Author.Tests.{not-true, not-false}
use Rattle.binary_words.specs.Apart.{place_of}
use Rattle.binary_words.proofs.ApartLaws.{apart_no, apart-yes, apart-end}
use Rattle.binary_words.proofs.places_apart.Goals as goal

pub returns-then-not-follows : goal.returns-then-not-follows
returns-then-not-follows c =
    let l = c.loop-p in
    let a = c.args in
    sym (apart_no a.s.now (place_of l.last) a.places.now l.p-index c.loop-p-test.true (sym c.follows.ensures ∙ not-true c.follows.result (ap not c.if-not-follows.true))) ∙ l.invariant

pub loop-p-preserved : goal.loop-p-preserved
loop-p-preserved c =
    let l = c.loop-p in
    let a = c.args in
    sym (apart-yes a.s.now (place_of l.last) a.places.now l.p-index c.loop-p-test.true (sym c.follows.ensures ∙ not-false c.follows.result (ap not c.if-not-follows.false))) ∙ l.invariant

pub returns : goal.returns
returns c =
    let l = c.loop-p in
    let a = c.args in
    sym (apart-end a.s.now (place_of l.last) a.places.now l.p-index c.loop-p-test.false) ∙ l.invariant
