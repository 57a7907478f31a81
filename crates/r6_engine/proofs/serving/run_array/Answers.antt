use Rattle.r6_engine.proofs.serving.run_array.Goals as goal

pub run_as-requires-clause-sound : goal.run_as-requires-clause-sound
run_as-requires-clause-sound g c κs within = λ shard slot. (λ x. x, λ x. x)
