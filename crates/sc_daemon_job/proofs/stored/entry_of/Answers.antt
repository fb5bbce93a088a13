use Rattle.std.proofs.Common.{◌≡◌, ◌+◌, ◌++◌, ◌∷◌, [], codes, ap, sym, ◌∙◌, subst, take, drop}
use Rattle.std.proofs.lemmas.List.{take_more, take_all}
use Rattle.sc_entry.specs.Entries.{entry}
use Rattle.sc_entry.specs.EntryAnswers.{PutAnswer, put_refusal, stream_object, stream_refusal}
use Rattle.sc_model.specs.Collected.{CanPut}
use Rattle.sc_daemon_job.proofs.Storing.{can_next, on_success, stderr_free, stdout_free}
use Rattle.sc_daemon_job.proofs.stored.entry_of.Goals as goal

pub refused-requires : goal.refused-requires
refused-requires c =
    let free = can_next c.loop-object.write c.args.objects.now c.loop-object.object-index c.object-item.result c.loop-object-test.true c.object-item.is c.loop-object.invariant.can in
    subst (λ v. PutAnswer v c.put_object.result) (ap (λ v. put_refusal v c.loop-object.write) c.as_str.ensures ∙ free.0) c.put_object.ensures.answer

pub loop-object-preserved : goal.loop-object-preserved
loop-object-preserved c =
    let free = can_next c.loop-object.write c.args.objects.now c.loop-object.object-index c.object-item.result c.loop-object-test.true c.object-item.is c.loop-object.invariant.can in
    let put = on_success c.put_object.result c.in_ok-refused.ensures c.put_object.ensures.ok in
    let new : c.put_object.new.self ≡ c.loop-object.write ++ c.object-item.result ∷ [] =
    put ∙ ap (λ v. c.loop-object.write ++ (record { name = v; mode = c.object-item.result.mode; bytes = c.as_slice.result.now }) ∷ []) c.as_str.ensures
    ∙ ap (λ v. c.loop-object.write ++ (record { name = c.object-item.result.name; mode = c.object-item.result.mode; bytes = v }) ∷ []) c.as_slice.ensures in
    record {
      written = new ∙ ap (λ v. v ++ c.object-item.result ∷ []) c.loop-object.invariant.written
          ∙ ap (λ v. take c.loop-object.object-index c.args.objects.now ++ v ∷ []) c.object-item.is
          ∙ sym (take_more c.args.objects.now c.loop-object.object-index c.object-item.result c.loop-object-test.true);
      can = subst (λ v. CanPut v (drop (c.loop-object.object-index + 1) c.args.objects.now)) (sym new) free.1;
    }

pub refused-requires-2 : goal.refused-requires-2
refused-requires-2 c =
    let all = c.loop-object.invariant.written ∙ take_all c.loop-object.object-index c.args.objects.now c.loop-object-test.false in
    subst (λ v. PutAnswer v c.put_stdout.result) (ap (λ v. stream_refusal (codes "stdout") c.args.stdout.now v) all ∙ stdout_free c.args.objects.now c.args.stdout.now c.requires) c.put_stdout.ensures.answer

pub refused-requires-3 : goal.refused-requires-3
refused-requires-3 c =
    let all = c.loop-object.invariant.written ∙ take_all c.loop-object.object-index c.args.objects.now c.loop-object-test.false in
    let put = on_success c.put_stdout.result c.in_ok-refused-2.ensures c.put_stdout.ensures.ok in
    subst (λ v. PutAnswer v c.put_stderr.result)
    (ap (λ v. stream_refusal (codes "stderr") c.args.stderr.now v) (put ∙ ap (λ v. v ++ stream_object (codes "stdout") c.args.stdout.now) all) ∙ stderr_free c.args.objects.now c.args.stdout.now c.args.stderr.now c.requires)
    c.put_stderr.ensures.answer

pub returns : goal.returns
returns c =
    let all = c.loop-object.invariant.written ∙ take_all c.loop-object.object-index c.args.objects.now c.loop-object-test.false in
    let out = on_success c.put_stdout.result c.in_ok-refused-2.ensures c.put_stdout.ensures.ok in
    let err = on_success c.put_stderr.result c.in_ok-refused-3.ensures c.put_stderr.ensures.ok in
    c.from_vec.ensures ∙ c.finish.ensures.spelled
    ∙ ap entry (err ∙ ap (λ v. v ++ stream_object (codes "stderr") c.args.stderr.now) (out ∙ ap (λ v. v ++ stream_object (codes "stdout") c.args.stdout.now) all))
