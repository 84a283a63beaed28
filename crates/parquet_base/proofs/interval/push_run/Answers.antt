use Rattle.parquet_base.proofs.RunLemmas.{pushed-none, pushed-last, pushed-next}
use Rattle.parquet_base.proofs.interval.push_run.Goals as goal

pub returns-in_ok-push-in-None : goal.returns-in_ok-push-in-None
returns-in_ok-push-in-None c = record {
  ok = pushed-none _ _ _ c.args.run _ c.in-None.ensures.cases.0 c.in-None.ensures.rest c.in-None.ensures.items
      c.in_ok-push-in-None.ensures.items c.requires.not_empty;
}

pub returns-in_ok-push-in-Some : goal.returns-in_ok-push-in-Some
returns-in_ok-push-in-Some c = record {
  ok = pushed-last _ _ _ c.in-Some.last c.args.run c.in-Some.ensures.items c.if-last-run.true c.in_ok-push-in-Some.ensures.items;
}

pub returns-in_ok-push-in-Some-2-2 : goal.returns-in_ok-push-in-Some-2-2
returns-in_ok-push-in-Some-2-2 c = record {
  ok = pushed-next _ _ _ _ c.in-Some.last c.args.run c.in-Some.ensures.items c.if-last-run.false
      c.in_ok-push-in-Some-2.ensures.items c.in_ok-push-in-Some-2-2.ensures.items c.requires.not_empty;
}
