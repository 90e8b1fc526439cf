use Rattle.std.proofs.Common.{◌≡◌, ◌+◌, ◌++◌, List, length, IfOk, OnOk, ap, sym, subst, refl, ◌∙◌, arith, rules, pos, Result}
use Rattle.std.proofs.lemmas.List.{length-append, get_or_read}
use Rattle.lo_base.proofs.Solving.{made-append}
use Rattle.lo_base.specs.Item.{made}
use Rattle.lo_base.specs.Partway.{on_err}
use Rattle.lo_terms.specs.declared.term.Operand.{Operand}
use Rattle.lo_terms.specs.Emitted.{ends}
use Rattle.lo_terms.specs.Lowering.{Low, single, low_expr, low_operands, own_low, has_written}
use Rattle.lo_terms.specs.Rules.{variable}
use Rattle.lo_terms.proofs.BoundLemmas.{node-bounds, bounds-more, variable-bounds}
use Rattle.lo_terms.proofs.LowerLemmas.{node-items, node-operands, node-front, due-more, told-more, low-Var, nodes-node, nodes-int, nodes-var, nodes-more, begins-same, on_ok, on_error}
use Rattle.xf_num.specs.Span.{Bounds}
use Rattle.xf_text.specs.declared.fault.Kind.{Kind}
use Rattle.xs_expr.proofs.Every.{every-operands, every-node, every-var}
use Rattle.xs_expr.proofs.Exponents.{power-exponent}
use Rattle.xs_model.specs.Bounds.{HasSpan, exactly, limited, operand}
use Rattle.xs_model.specs.Formed.{nodes_of}
use Rattle.xs_model.specs.Shape.{HasShape, ArePlaced}
use Rattle.xs_model.specs.declared.expr.Expr.{the_lemmas}
use Rattle.lo_terms.proofs.expression.+lowering.Goals as goal

pub lower_expr-bounds-spans-number : goal.lower_expr-bounds-spans-number
lower_expr-bounds-spans-number g t c =
    every-var (HasSpan c.args.spans.now) _ _ c.in-Var.is c.requires.variables

pub lower_expr-lower_operands-requires : goal.lower_expr-lower_operands-requires
lower_expr-lower_operands-requires g t c κs within =
    let size = nodes-node c.args.e.now c.in-Node.op c.in-Node.items c.in-Node.is in
    let same = ap nodes_of c.as_slice-in-Node.ensures in
    let room = c.requires.room in (
      search (rules, the_lemmas),
      (
        search rules,
        (
          every-operands HasShape _ _ _ _ c.in-Node.is c.as_slice-in-Node.ensures c.requires.shaped,
          (
            every-operands (HasSpan c.args.spans.now) _ _ _ _ c.in-Node.is c.as_slice-in-Node.ensures c.requires.variables,
            omega arith,
          ),
        ),
      ),
    )

pub lower_expr-returns-in_err-gathered-in-Node-clause-stopped : goal.lower_expr-returns-in_err-gathered-in-Node-clause-stopped
lower_expr-returns-in_err-gathered-in-Node-clause-stopped g t c =
    let front = node-front c.args.spans.now c.args.e.now c.in-Node.op c.in-Node.items c.as_slice-in-Node.result.now c.args.mode (g.E.Emit.count c.args.out.now) c.in-Node.is c.as_slice-in-Node.ensures in
    on_err c.from_residual.result (g.met.E.Emit.longer _ _ _ _ c.in_err-gathered-in-Node.ensures.stopped front)

pub lower_expr-own_bounds-bounds-requires : goal.lower_expr-own_bounds-bounds-requires
lower_expr-own_bounds-bounds-requires g t c =
    λ s is is_power.
    let shape = every-node HasShape _ _ _ c.in-Node.is c.requires.shaped in
    let placed = subst (ArePlaced c.in-Node.op) (sym c.as_slice-in-Node.ensures) shape.1 in
    power-exponent c.args.spans.now c.in-Node.op c.as_slice-in-Node.result.now s
    (subst (λ op. ArePlaced op c.as_slice-in-Node.result.now) is_power placed)
    (sym c.in_ok-gathered-in-Node.ensures.value ∙ is)

pub lower_expr-returns-in-Int-clause-bound : goal.lower_expr-returns-in-Int-clause-bound
lower_expr-returns-in-Int-clause-bound g t c =
    let size = nodes-int c.args.e.now c.in-Int.value c.in-Int.is in
    on_ok c.lower_literal.result (λ bound. omega (arith, size, bound)) c.lower_literal.ensures.bound

pub lower_expr-returns-in-Var-clause-value : goal.lower_expr-returns-in-Var-clause-value
lower_expr-returns-in-Var-clause-value g t c =
    let within = every-var (HasSpan c.args.spans.now) _ _ c.in-Var.is c.requires.variables in
    let read = get_or_read c.args.spans.now _ _ within c.index-spans-number.is (exactly (pos 0)) in
    let leaf : c.index-spans-number.result ≡ operand c.args.spans.now c.in-Var.number = search rules in
    let known = variable-bounds c.args.spans.now c.args.e.now c.in-Var.number c.index-spans-number.result c.in-Var.is leaf in
    subst (λ (w : Result Bounds Kind). IfOk c.lower_variable.result (λ b. b ≡ w)) known c.lower_variable.ensures.value

pub lower_expr-returns-in-Var-clause-told : goal.lower_expr-returns-in-Var-clause-told
lower_expr-returns-in-Var-clause-told g t c =
    let within = every-var (HasSpan c.args.spans.now) _ _ c.in-Var.is c.requires.variables in
    let read = get_or_read c.args.spans.now _ _ within c.index-spans-number.is (exactly (pos 0)) in
    let leaf : c.index-spans-number.result ≡ operand c.args.spans.now c.in-Var.number = search rules in
    let known = variable-bounds c.args.spans.now c.args.e.now c.in-Var.number c.index-spans-number.result c.in-Var.is leaf in
    let same : single (ends (limited c.index-spans-number.result)) (variable c.args.mode (g.E.Emit.count c.args.out.now) c.in-Var.number) ≡ low_expr c.args.spans.now c.args.e.now c.args.mode (g.E.Emit.count c.args.out.now) =
    ap (λ (w : Result Bounds Kind). single (ends w) (variable c.args.mode (g.E.Emit.count c.args.out.now) c.in-Var.number)) known ∙ sym (low-Var c.args.spans.now c.args.e.now c.in-Var.number c.args.mode (g.E.Emit.count c.args.out.now) c.in-Var.is) in
    subst (λ (l : Low). OnOk c.lower_variable.result (c.lower_variable.new.operands ≡ c.args.operands.now ++ l.operands)) same c.lower_variable.ensures.told

pub lower_expr-returns-in-Var-clause-bound : goal.lower_expr-returns-in-Var-clause-bound
lower_expr-returns-in-Var-clause-bound g t c =
    let size = nodes-var c.args.e.now c.in-Var.number c.in-Var.is in
    on_ok c.lower_variable.result (λ bound. omega (arith, size, bound)) c.lower_variable.ensures.bound

pub lower_expr-returns-in_ok-gathered-in-Node-clause-value : goal.lower_expr-returns-in_ok-gathered-in-Node-clause-value
lower_expr-returns-in_ok-gathered-in-Node-clause-value g t c =
    let known = node-bounds c.args.spans.now c.args.e.now c.in-Node.op c.in-Node.items c.as_slice-in-Node.result.now c.in_ok-gathered-in-Node.gathered c.own_bounds-bounds.result c.in-Node.is c.as_slice-in-Node.ensures c.in_ok-gathered-in-Node.ensures.value c.own_bounds-bounds.ensures in
    subst (λ (w : Result Bounds Kind). IfOk c.finish.result (λ b. b ≡ w)) known c.finish.ensures.value

pub lower_expr-returns-in_ok-gathered-in-Node-clause-told : goal.lower_expr-returns-in_ok-gathered-in-Node-clause-told
lower_expr-returns-in_ok-gathered-in-Node-clause-told g t c =
    let known = node-bounds c.args.spans.now c.args.e.now c.in-Node.op c.in-Node.items c.as_slice-in-Node.result.now c.in_ok-gathered-in-Node.gathered c.own_bounds-bounds.result c.in-Node.is c.as_slice-in-Node.ensures c.in_ok-gathered-in-Node.ensures.value c.own_bounds-bounds.ensures in
    let literals = c.has_written-written.ensures ∙ ap has_written c.as_slice.ensures in
    let own = c.in_ok-gathered-in-Node.ensures.told ∙ ap (λ (os : List Operand). os ++ (low_operands c.args.spans.now c.in-Node.op c.args.mode 0 (g.E.Emit.count c.args.out.now) c.as_slice-in-Node.result.now).operands) c.new-own.ensures in
    let told = node-operands c.args.spans.now c.args.e.now c.in-Node.op c.in-Node.items c.as_slice-in-Node.result.now c.args.mode (g.E.Emit.count c.args.out.now) _ _ _ _
    c.in-Node.is c.as_slice-in-Node.ensures (ap ends known) literals c.in_ok-gathered-in-Node.ensures.count own in
    subst (λ (os : List Operand). OnOk c.finish.result (c.finish.new.operands ≡ c.args.operands.now ++ os)) told c.finish.ensures.told

pub lower_expr-returns-in_ok-gathered-in-Node-clause-ok : goal.lower_expr-returns-in_ok-gathered-in-Node-clause-ok
lower_expr-returns-in_ok-gathered-in-Node-clause-ok g t c =
    let known = node-bounds c.args.spans.now c.args.e.now c.in-Node.op c.in-Node.items c.as_slice-in-Node.result.now c.in_ok-gathered-in-Node.gathered c.own_bounds-bounds.result c.in-Node.is c.as_slice-in-Node.ensures c.in_ok-gathered-in-Node.ensures.value c.own_bounds-bounds.ensures in
    let literals = c.has_written-written.ensures ∙ ap has_written c.as_slice.ensures in
    let own = c.in_ok-gathered-in-Node.ensures.told ∙ ap (λ (os : List Operand). os ++ (low_operands c.args.spans.now c.in-Node.op c.args.mode 0 (g.E.Emit.count c.args.out.now) c.as_slice-in-Node.result.now).operands) c.new-own.ensures in
    let items = node-items c.args.spans.now c.args.e.now c.in-Node.op c.in-Node.items c.as_slice-in-Node.result.now c.args.mode (g.E.Emit.count c.args.out.now) _ _ _ _
    c.in-Node.is c.as_slice-in-Node.ensures (ap ends known) literals c.in_ok-gathered-in-Node.ensures.count own in
    on_ok c.finish.result (λ grew. g.met.E.Emit.joined _ _ _ _ _ _ c.in_ok-gathered-in-Node.ensures.ok grew items) c.finish.ensures.ok

pub lower_expr-returns-in_ok-gathered-in-Node-clause-count : goal.lower_expr-returns-in_ok-gathered-in-Node-clause-count
lower_expr-returns-in_ok-gathered-in-Node-clause-count g t c =
    let known = node-bounds c.args.spans.now c.args.e.now c.in-Node.op c.in-Node.items c.as_slice-in-Node.result.now c.in_ok-gathered-in-Node.gathered c.own_bounds-bounds.result c.in-Node.is c.as_slice-in-Node.ensures c.in_ok-gathered-in-Node.ensures.value c.own_bounds-bounds.ensures in
    let literals = c.has_written-written.ensures ∙ ap has_written c.as_slice.ensures in
    let own = c.in_ok-gathered-in-Node.ensures.told ∙ ap (λ (os : List Operand). os ++ (low_operands c.args.spans.now c.in-Node.op c.args.mode 0 (g.E.Emit.count c.args.out.now) c.as_slice-in-Node.result.now).operands) c.new-own.ensures in
    let items = node-items c.args.spans.now c.args.e.now c.in-Node.op c.in-Node.items c.as_slice-in-Node.result.now c.args.mode (g.E.Emit.count c.args.out.now) _ _ _ _
    c.in-Node.is c.as_slice-in-Node.ensures (ap ends known) literals c.in_ok-gathered-in-Node.ensures.count own in
    let below = low_operands c.args.spans.now c.in-Node.op c.args.mode 0 (g.E.Emit.count c.args.out.now) c.as_slice-in-Node.result.now in
    let last = own_low c.in-Node.op c.args.mode (ends c.own_bounds-bounds.result) c.has_written-written.result (g.E.Emit.count c.lower_operands.new.out) c.lower_operands.new.operands in
    let all : made (low_expr c.args.spans.now c.args.e.now c.args.mode (g.E.Emit.count c.args.out.now)).items ≡ made below.items + made last.items = ap made (sym items) ∙ made-append below.items last.items in
    let first = c.in_ok-gathered-in-Node.ensures.count in
    on_ok c.finish.result (λ counted. omega (arith, counted)) c.finish.ensures.count

pub lower_expr-returns-in_ok-gathered-in-Node-clause-stopped : goal.lower_expr-returns-in_ok-gathered-in-Node-clause-stopped
lower_expr-returns-in_ok-gathered-in-Node-clause-stopped g t c =
    let known = node-bounds c.args.spans.now c.args.e.now c.in-Node.op c.in-Node.items c.as_slice-in-Node.result.now c.in_ok-gathered-in-Node.gathered c.own_bounds-bounds.result c.in-Node.is c.as_slice-in-Node.ensures c.in_ok-gathered-in-Node.ensures.value c.own_bounds-bounds.ensures in
    let literals = c.has_written-written.ensures ∙ ap has_written c.as_slice.ensures in
    let own = c.in_ok-gathered-in-Node.ensures.told ∙ ap (λ (os : List Operand). os ++ (low_operands c.args.spans.now c.in-Node.op c.args.mode 0 (g.E.Emit.count c.args.out.now) c.as_slice-in-Node.result.now).operands) c.new-own.ensures in
    let items = node-items c.args.spans.now c.args.e.now c.in-Node.op c.in-Node.items c.as_slice-in-Node.result.now c.args.mode (g.E.Emit.count c.args.out.now) _ _ _ _
    c.in-Node.is c.as_slice-in-Node.ensures (ap ends known) literals c.in_ok-gathered-in-Node.ensures.count own in
    on_error c.finish.result (λ began. g.met.E.Emit.then_began _ _ _ _ _ _ c.in_ok-gathered-in-Node.ensures.ok began (begins-same _ _ items)) c.finish.ensures.stopped

pub lower_operands-loop-place-preserved : goal.lower_operands-loop-place-preserved
lower_operands-loop-place-preserved g t c =
    let n = g.E.Emit.count c.loop-place.out in
    let item = c.index-items-place.result in
    let more = due-more c.args.spans.now c.args.op c.args.mode c.operand_mode-asked.result n _ c.args.items.now c.loop-place.place item
    (omega arith) c.index-items-place.is c.operand_mode-asked.ensures c.in_ok-next.ensures.count in
    let pushed = c.in_ok-next.ensures.told in
    let size = nodes-more c.args.items.now c.loop-place.place item (omega arith) c.index-items-place.is in
    let low = (low_expr c.args.spans.now item c.operand_mode-asked.result n).operands in
    let long : length c.lower_expr.new.operands ≡ length c.loop-place.operands + length low = ap length pushed ∙ length-append c.loop-place.operands low in
    let longer = c.loop-place.invariant.longer in
    let before = c.loop-place.invariant.room in
    let bound = c.in_ok-next.ensures.bound in
    record {
      due = g.met.E.Emit.goes_on _ _ _ _ _ _ _ c.loop-place.invariant.due c.in_ok-next.ensures.ok more;
      told = told-more c.args.spans.now c.args.op c.args.mode c.operand_mode-asked.result n _ c.args.items.now c.loop-place.place item c.loop-place.operands _ _ _
          (omega arith) c.index-items-place.is c.operand_mode-asked.ensures c.in_ok-next.ensures.count pushed refl c.loop-place.invariant.told;
      ends =
          bounds-more c.args.op c.args.spans.now c.args.items.now c.loop-place.place item c.loop-place.gathered c.with_next-gathered.result c.in_ok-next.next
          (omega arith) c.index-items-place.is c.with_next-gathered.ensures c.in_ok-next.ensures.value
          ∙ c.loop-place.invariant.ends;
      longer = omega arith;
      room = omega arith;
    }
