mod Makes
mod Maps
mod Parts
mod Eleven
mod ElevenSteps
mod ReplacedSteps
mod Stacks
