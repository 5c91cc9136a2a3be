-- The definitions give each sample the blocks that are expected, by computing them.
use Rattle.std.proofs.Common.{◌≡◌, refl, map}
use Rattle.graph.specs.Lists.{keep, table, range}
use Rattle.graph.specs.Blocks.{finishing, cut, blocks}
use Rattle.graph.specs.BlockSamples.{BlockSample, blocks_of, block_samples}

pub samples_hold : map blocks_of block_samples ≡ map (λ (s : BlockSample). s.expected) block_samples
unfolding keep table range finishing cut blocks
samples_hold = refl
