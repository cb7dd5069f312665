-- `method_sets::table::methods_of` meets its contract.
-- Assumes nothing.
use Rattle.std.proofs.Common.{◌*◌, arith, ◌∙◌, length-set, zero-add}
use Rattle.rules.specs.Model.{model_of}
use Rattle.method_sets.specs.Sets.{WordOf, method_of}
use Rattle.method_sets.proofs.Stored.{stored_more}
use Rattle.method_sets.proofs.Words.{set_words_lem}
use Rattle.method_sets.proofs.table.methods_of.Goals as goal

pub loop-w-preserved : goal.loop-w-preserved
loop-w-preserved c =
    let l = c.loop-w in
    let a = c.args in
    record {
      long = length-set l.set l.w _ ∙ l.invariant.long;
      words = stored_more (λ v x. WordOf (method_of (model_of a.bundle.now.bytes.now) a.order.now a.f) (64 * v) x) l.set l.w _ (omega arith) l.invariant.words c.word_of.ensures;
    }

pub returns : goal.returns
returns c = set_words_lem _ 0 _ (λ w h. simp zero-add (c.loop-w.invariant.words w (omega arith)))
